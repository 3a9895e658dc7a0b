-- The definitions that contracts cite.
pub mod NamedLines
pub mod Named
pub mod Naming
pub mod NameLaws

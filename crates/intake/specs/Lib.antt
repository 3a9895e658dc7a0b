-- The definitions that contracts cite.
pub mod Needs
pub mod UsualLines
pub mod Written

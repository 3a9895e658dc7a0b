-- The definitions that contracts cite.
pub mod Laws
pub mod Lines
pub mod Pushing
pub mod Tasks

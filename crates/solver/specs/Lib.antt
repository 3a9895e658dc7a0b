-- The definitions that contracts cite.
pub mod Outcomes
pub mod Laws
pub mod Finding

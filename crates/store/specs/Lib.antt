-- The definitions that contracts cite.
pub mod Laws
pub mod Stored
pub mod Keys
pub mod Indexes
pub mod Slots
pub mod RequirementIndex

-- The definitions that contracts cite.
pub mod Registry
pub mod Needs
pub mod ByName
pub mod Step
pub mod Commands
pub mod Rooms
pub mod Lawful
pub mod Publications
pub mod Places
pub mod Highest
pub mod Dependencies
pub mod Requests
pub mod Selections
pub mod Preference
pub mod Laws

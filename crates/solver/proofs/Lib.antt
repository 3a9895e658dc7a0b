-- Lemmas.
pub mod Listing
pub mod Newest
pub mod Outcomes
pub mod Stopping

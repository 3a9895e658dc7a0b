-- Lemmas.
pub mod Lists
pub mod Growing
pub mod Behind
pub mod Walking
pub mod Taken
pub mod Offered
pub mod Clearing
pub mod Moving
pub mod Conclusions
pub mod Joining
pub mod Reused
pub mod Ruling

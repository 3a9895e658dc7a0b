-- Lemmas of this crate.
pub mod Searching
pub mod Raising
pub mod Marking
pub mod Room
pub mod Standing
pub mod MatchingLemmas
pub mod Meeting
pub mod BoundOrder
pub mod Between
pub mod Publishing

-- The definitions that contracts cite.
pub mod Releases
pub mod Rising
pub mod Kept
pub mod Matching

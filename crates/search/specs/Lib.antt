-- The definitions that contracts cite.
pub mod Assignments
pub mod Satisfying
pub mod Rank
pub mod Trail
pub mod Reach
pub mod Deciding
pub mod Searching
pub mod Picking
pub mod Answering

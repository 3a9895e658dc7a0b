-- The definitions that contracts cite.
pub mod Sets
pub mod Terms
pub mod Incompats
pub mod Words
pub mod Growing
pub mod Merges
pub mod Fronts
pub mod TermLists

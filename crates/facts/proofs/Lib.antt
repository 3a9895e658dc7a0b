-- Lemmas.
pub mod Lists
pub mod Extending
pub mod Rooted
pub mod Entries
pub mod Publishing
pub mod Numbering
pub mod Pushed
pub mod TermLemmas

-- Lemmas of this crate.
pub mod NeverMemory
pub mod PreReleaseLemmas
pub mod PrecedenceLemmas
pub mod ReadingLemmas
pub mod VersionTextLemmas
pub mod WorkedRows
pub mod BoundLemmas

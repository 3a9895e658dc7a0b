pub mod LawfulLemmas
pub mod OutcomeLemmas
pub mod PutLemmas

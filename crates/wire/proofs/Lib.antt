pub mod RequestLemmas
pub mod JudgeLemmas
pub mod ItemLemmas
pub mod OrdinalLemmas

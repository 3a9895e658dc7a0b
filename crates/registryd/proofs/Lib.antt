pub mod CallLemmas
pub mod EndLemmas
pub mod FoundLemmas
pub mod KeptLemmas
pub mod LoadLemmas
pub mod MendLemmas
pub mod WordLemmas
pub mod WriteLemmas

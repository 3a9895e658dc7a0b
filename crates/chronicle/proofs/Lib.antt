-- Lemmas.
pub mod SerialLemmas
pub mod JournalLemmas
pub mod RefusalLemmas
pub mod CallLemmas
pub mod MarkLemmas
pub mod ScheduleLemmas
pub mod AgreeLemmas
pub mod WorkedRows

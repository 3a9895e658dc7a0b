-- Lemmas.
pub mod Pushed
pub mod Published
pub mod Asking
pub mod Soundness
pub mod Lasting
pub mod Judging
pub mod LastLine
pub mod Sound
pub mod Ends
pub mod Refuting
pub mod Behind
pub mod Written
pub mod Holding

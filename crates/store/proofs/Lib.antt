-- Lemmas.
pub mod Behind
pub mod Written
pub mod Tested
pub mod Grown
pub mod Storing
pub mod Concluding
pub mod Resting
pub mod Chained
pub mod Thinning
pub mod Finding
pub mod Wanting

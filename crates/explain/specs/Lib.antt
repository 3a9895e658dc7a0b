-- The definitions that contracts cite.
pub mod Choices
pub mod Explanations

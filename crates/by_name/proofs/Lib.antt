pub mod NumberLemmas
pub mod DerivedNames
pub mod AgainLemmas

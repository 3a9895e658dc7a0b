-- The definitions that contracts cite.
pub mod Lines
pub mod Facts
pub mod Derivations
pub mod Causes
pub mod Learning
pub mod CausedIncompatibilities
pub mod Laws

-- The definitions that contracts cite.
pub mod Members
pub mod NamedShapes
pub mod Shapes
pub mod Requests
pub mod Learn
pub mod Locks
pub mod DerivedShapes
pub mod Asked

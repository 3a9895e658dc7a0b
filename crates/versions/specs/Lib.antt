-- The definitions that contracts cite.
pub mod Bounds
pub mod NameLaws
pub mod OnLiterals
pub mod PreReleases
pub mod Precedence
pub mod Readings
pub mod Refusals
pub mod VersionTexts
pub mod Words

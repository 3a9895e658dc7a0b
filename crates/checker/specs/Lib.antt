-- The definitions that contracts cite.
pub mod Shown
pub mod Laws
pub mod Tables
pub mod Places
pub mod Said
pub mod Cutting
pub mod Taking
pub mod Offering
pub mod Pairing
pub mod Members
pub mod Ruling
pub mod Showing

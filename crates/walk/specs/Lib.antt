-- The definitions that contracts cite.
pub mod Choosing
pub mod Pages
pub mod Walks
pub mod Preferring
pub mod Names
pub mod Newest
pub mod Answer
pub mod PlainlyNewest
pub mod Best
pub mod Left
pub mod Listing

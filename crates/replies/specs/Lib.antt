-- The definitions that contracts cite.
pub mod Listings
pub mod Entries
pub mod Objects
pub mod NamedJson
pub mod Told
pub mod Replies
pub mod Locks
pub mod Joined
pub mod Replied
pub mod Plain
pub mod Putting
pub mod ReplyLines

pub mod PlainLemmas
pub mod RequirementLemmas
pub mod ReplyLemmas
pub mod PutLemmas
pub mod ListingLemmas
pub mod WrittenLemmas
pub mod PlainJson
pub mod LineLemmas

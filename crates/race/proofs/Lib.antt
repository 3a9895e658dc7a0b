pub mod KeptLemmas
pub mod RaceLemmas
pub mod RacingLemmas
pub mod SeatedLemmas

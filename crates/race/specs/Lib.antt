pub mod Racing
pub mod KeptReply
pub mod Race
pub mod Seated

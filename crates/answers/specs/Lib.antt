pub mod Outcomes
pub mod Told
pub mod Lawful
pub mod Answering
pub mod Laws

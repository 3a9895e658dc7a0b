pub mod Ahead
pub mod Answering
pub mod Hands
pub mod Sharing
pub mod Taking

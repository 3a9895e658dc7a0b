pub mod CommandWalk
pub mod GivenValues

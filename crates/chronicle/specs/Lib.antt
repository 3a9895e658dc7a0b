-- The definitions that contracts cite.
pub mod Cells
pub mod Offers
pub mod Journals
pub mod Calls
pub mod Seats
pub mod Notes
pub mod World
pub mod Rules
pub mod Results
pub mod Rows

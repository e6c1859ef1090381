pub mod Ahead
pub mod Examples
pub mod Following
pub mod Seat

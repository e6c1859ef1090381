pub mod Hits
pub mod Notices
pub mod Moves
pub mod Following
pub mod Examples

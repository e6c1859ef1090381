pub mod Followed
pub mod Stories

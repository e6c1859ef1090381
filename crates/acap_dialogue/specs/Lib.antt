pub mod Examples
pub mod Hearing
pub mod Listening
pub mod Running
pub mod Saying
pub mod Session
pub mod Talking
pub mod Telling

pub mod Computing
pub mod Running
pub mod Speaking

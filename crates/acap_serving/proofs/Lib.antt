pub mod Collected
pub mod Dealt
pub mod Threads
pub mod Untold

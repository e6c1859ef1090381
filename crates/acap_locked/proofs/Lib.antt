pub mod Computing
pub mod Passed
pub mod Replays
pub mod Runs
pub mod CrossingCalls
pub mod CrossingServed
pub mod CrossingStates

pub mod Dealing
pub mod Devices
pub mod Ends
pub mod Faults
pub mod Histories

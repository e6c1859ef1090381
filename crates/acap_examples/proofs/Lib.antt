pub mod ClientLemmas
pub mod Stepping
pub mod Living
pub mod Unheard

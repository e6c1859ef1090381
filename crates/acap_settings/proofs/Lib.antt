pub mod TakingLemmas
pub mod Views

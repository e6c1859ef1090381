pub mod NumberLemmas
pub mod Examples

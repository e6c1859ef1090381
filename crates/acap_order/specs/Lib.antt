pub mod Digits
pub mod Laws
pub mod Matching
pub mod Ranks
pub mod Spellings

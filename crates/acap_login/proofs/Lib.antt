pub mod Accepting
pub mod Answers
pub mod ChallengeLemmas
pub mod CutLemmas
pub mod Examples
pub mod Places

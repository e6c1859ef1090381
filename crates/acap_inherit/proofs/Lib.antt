mod ChainLaws
mod ChainSteps
mod ExampleLemmas
mod FirstLaws
mod FoundLemmas
mod HeirLemmas
mod IndexLemmas
mod MergeLemmas
mod Moments
pub mod NameLemmas
mod NamesLaws
mod PartLemmas
mod ReachLemmas
mod ReadingLaws
mod RepeatLaws
mod Sampling
pub mod TouchedLemmas
mod TouchedSamples
pub mod UnreadLaws
pub mod WrittenLemmas

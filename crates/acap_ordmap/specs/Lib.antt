pub mod Leaves
pub mod RankLaws
pub mod Ranks
pub mod Replacing
pub mod Room
pub mod Sorted

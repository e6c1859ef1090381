pub mod Answers
pub mod EntryOrder
pub mod Modifiers
pub mod Nodes
pub mod Statuses
pub mod Wanted

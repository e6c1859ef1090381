pub mod Exact
pub mod ReplyEquality
pub mod CommandEquality
pub mod OrderLemmas

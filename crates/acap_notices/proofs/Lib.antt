pub mod RowLemmas
pub mod NameLemmas
pub mod RuleLemmas
pub mod NoticeEquality
pub mod BatchLemmas
pub mod ExampleLemmas

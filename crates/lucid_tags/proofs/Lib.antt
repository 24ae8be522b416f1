pub mod Common
pub mod ContextLemmas
pub mod ListLemmas
pub mod RowLemmas
pub mod RowEquality
pub mod TagLemmas

pub mod RowLemmas
pub mod AllowedLemmas
pub mod TableLemmas
pub mod HeaderLemmas
pub mod WritingLemmas

pub mod ReadingLemmas
pub mod OneReading
pub mod LineLemmas
pub mod QueryLemmas
pub mod DumpLemmas
pub mod NamedLemmas
pub mod PositionLemmas
pub mod TableLemmas
pub mod ExpansionLemmas
pub mod OneAnswerLemmas
mod SaidLemmas

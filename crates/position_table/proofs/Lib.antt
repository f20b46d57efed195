pub mod ScanLemmas
pub mod FileLemmas
pub mod DraftLemmas
pub mod TableLemmas
pub mod KeptLemmas
pub mod ParseLemmas
pub mod SpellingLemmas

pub mod FileLemmas
pub mod SearchLemmas
pub mod CountLemmas
pub mod OneSearchLemmas
pub mod SomeSearchLemmas
pub mod SearchExamples
pub mod SomeFileLemmas
pub mod ByteLemmas

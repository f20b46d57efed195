mod CutLemmas
mod EventLemmas
mod GrowingLemmas
mod LongestLemmas
mod LoopLemmas
mod PieceLemmas
mod PlaceLemmas
mod RestoringLemmas
pub mod WellMadeLemmas

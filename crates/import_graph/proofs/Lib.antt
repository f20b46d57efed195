mod RangeLemmas
mod TurnLemmas
mod BeginLemmas
mod WalkLemmas
mod SpliceLemmas
mod NodeLemmas
mod ReadLemmas
mod OpenLemmas
mod StandLemmas
mod MeasureLemmas
mod WalkStepLemmas
mod MadeLemmas
mod RestLemmas
mod StepLemmas
mod RootLemmas
pub mod OneSpliceLemmas
pub mod OneWalkLemmas
pub mod AnswerLemmas
pub mod ToldLemmas
mod SaidLemmas
mod WholeLemmas
mod DecidedLemmas

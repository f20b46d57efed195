pub mod ContributionLemmas
pub mod PoolLemmas
pub mod PoolLawLemmas

pub mod Positions
pub mod Files
pub mod Standing
pub mod Answers
pub mod Paths
pub mod Laws
pub mod Scopes

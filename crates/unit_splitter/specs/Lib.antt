pub mod Names
pub mod Split
pub mod Growing
pub mod Laws

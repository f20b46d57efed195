pub mod Strings
pub mod Offsets
pub mod Contributions
pub mod Laws
pub mod Pool
pub mod PoolLaws
pub mod PoolTable

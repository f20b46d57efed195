pub mod Gabi
pub mod FileHeader
pub mod SectionTable
pub mod Family
pub mod Faults
pub mod View
pub mod Members
pub mod Laws

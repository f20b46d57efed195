pub mod Opcodes
pub mod Faults
pub mod Rows
pub mod Header
pub mod Spelling
pub mod Reading
pub mod Writing
pub mod Laws

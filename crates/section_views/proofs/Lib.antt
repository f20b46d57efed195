pub mod Finding
pub mod Firsts
pub mod Strings
pub mod Places
pub mod Keeping
pub mod Unique

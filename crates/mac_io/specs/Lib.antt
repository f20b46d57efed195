pub mod Causes
pub mod Files
pub mod Calls
pub mod InMemory
pub mod Codes
pub mod Search
pub mod SearchLaws
pub mod System

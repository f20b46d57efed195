-- What a reader must believe: public contracts cite it.
pub mod Marked
pub mod Macros
pub mod Calls
pub mod Substituted
pub mod Heads
pub mod Expansion
pub mod Rules
pub mod Answering
-- What public laws say of it.
pub mod Invocations
pub mod Laws
-- What only private functions cite.
pub mod States
pub mod Slots
pub mod ParsedMacros
pub mod Taking
pub mod Machine
pub mod Levels
pub mod Listed

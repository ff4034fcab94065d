pub mod ByHeight
pub mod ByName
pub mod Entries
pub mod Known
pub mod KnownList
pub mod Retained
pub mod Waiting

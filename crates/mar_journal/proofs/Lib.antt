pub mod Framings
pub mod Frames
pub mod Crash
pub mod Moments
mod Appending
mod Bytes
pub mod Bodies
mod Opening
mod Heads
pub mod WritingAll
mod Spelling
mod Causes
mod Firsts

pub mod Gate
pub mod Writing
pub mod Pool
pub mod Views
pub mod Gated
pub mod Staged

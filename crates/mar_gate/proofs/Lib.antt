pub mod Batches
pub mod Pools
pub mod Gating
pub mod ByHeight

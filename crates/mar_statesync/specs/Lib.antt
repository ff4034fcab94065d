pub mod Plain
pub mod Snapshots
pub mod Reading

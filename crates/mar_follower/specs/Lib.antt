pub mod Segments
pub mod Chains
pub mod Plain
pub mod Reading
pub mod Reports

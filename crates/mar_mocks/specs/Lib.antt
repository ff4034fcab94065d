pub mod Applied
pub mod AppliedViews
pub mod Entries
pub mod Recorded

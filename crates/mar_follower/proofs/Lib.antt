pub mod ArchiveLaws
pub mod Fronts
pub mod OneReading
pub mod Judged
pub mod Checked
pub mod Strangers

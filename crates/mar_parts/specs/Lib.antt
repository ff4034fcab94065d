pub mod Certified
pub mod Views
pub mod WaitKeys
pub mod WaitViews
pub mod Waits

pub mod Rules
pub mod MockReading
pub mod Found
pub mod Groups
pub mod Views
pub mod Entered
pub mod EntryViews
pub mod Produced

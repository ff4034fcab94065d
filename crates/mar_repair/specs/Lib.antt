pub mod Walk
pub mod Views
pub mod Open
pub mod Newest

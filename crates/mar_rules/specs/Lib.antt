pub mod Next
pub mod Noted
pub mod Keeping

pub mod Lost
pub mod Told

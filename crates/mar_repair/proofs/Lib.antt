pub mod Rows
pub mod Found
pub mod Steps
pub mod Tops
pub mod Asks
pub mod Alone
pub mod Passes

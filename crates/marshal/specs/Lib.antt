pub mod Commands
pub mod Empty

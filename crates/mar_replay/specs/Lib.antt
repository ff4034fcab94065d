pub mod Turn
pub mod Playing
pub mod Gen
pub mod Commands

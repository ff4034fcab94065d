pub mod Hinted
pub mod KeptFor
pub mod Pruned
pub mod Raised
pub mod Taken

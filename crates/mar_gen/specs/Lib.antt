pub mod Draws
pub mod Chain
pub mod Plan
pub mod Output

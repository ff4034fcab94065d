pub mod Stands
pub mod Backing
pub mod Turns
pub mod OfKinds
pub mod Coming
pub mod Behind

pub mod FirstSteps
pub mod Lawful
pub mod Numbers
pub mod Cuts
pub mod Heights
pub mod Values

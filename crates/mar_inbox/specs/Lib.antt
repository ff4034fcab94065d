pub mod Answers
pub mod Policy
pub mod Turns
pub mod Kinds
pub mod Behind
pub mod Queueing
pub mod Views
pub mod Asking

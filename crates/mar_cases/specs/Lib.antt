pub mod Calls
pub mod CallLemmas

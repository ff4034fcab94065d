pub mod Chains
pub mod Walking

pub mod Balances
pub mod Entering
pub mod FoundLedgers
pub mod PutKeys
pub mod Kept
pub mod Truths

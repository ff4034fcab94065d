pub mod Books
pub mod Entries
pub mod Ledger
pub mod Truth
pub mod Writing
pub mod Ends

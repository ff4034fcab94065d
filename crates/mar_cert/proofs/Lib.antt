pub mod PartsRead
pub mod PartsWritten
pub mod SignerSteps
pub mod Sizes
pub mod Verdicts

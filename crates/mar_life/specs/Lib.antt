pub mod Fitting
pub mod Views
pub mod Pooling
pub mod Caching

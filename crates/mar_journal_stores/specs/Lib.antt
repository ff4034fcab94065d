pub mod Watches
pub mod Reasons
pub mod MetaStore
pub mod ArchiveStore

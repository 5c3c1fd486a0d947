pub mod Naming
pub mod Entries
pub mod Spelled

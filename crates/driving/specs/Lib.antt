pub mod Streams
pub mod Drives

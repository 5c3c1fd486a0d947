mod Following
pub mod Sizes
pub mod Turns

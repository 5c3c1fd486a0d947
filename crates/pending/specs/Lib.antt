pub mod Fronts
pub mod Opened
pub mod Stacked
pub mod Underway

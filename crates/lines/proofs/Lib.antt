mod Fronts
mod Letters
pub mod Reading
pub mod Bounds

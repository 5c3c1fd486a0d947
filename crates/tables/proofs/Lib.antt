pub mod OneKey
pub mod Told
pub mod Laws
pub mod Reading
mod Examples

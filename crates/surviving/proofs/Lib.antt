pub mod Reading
pub mod Leaving
pub mod Assigning
pub mod Expanding
pub mod Stepping
pub mod Calling
pub mod Booked
pub mod Surviving

pub mod Refusals
pub mod Braces
pub mod Dividing
pub mod Matching
pub mod Laws
pub mod Worked

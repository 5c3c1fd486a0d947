pub mod Ends
pub mod Parts
mod Lending
pub mod Newest
pub mod Waiting

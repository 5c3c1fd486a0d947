pub mod Diaries
pub mod Laws

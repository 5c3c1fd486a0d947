pub mod Table
pub mod Diary
pub mod Laws
pub mod Reading

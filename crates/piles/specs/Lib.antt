pub mod Joins
pub mod Helds
pub mod Inserting
pub mod PutBacks
pub mod Behind
pub mod Front

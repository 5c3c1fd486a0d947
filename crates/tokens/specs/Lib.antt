pub mod Categories
pub mod Words
pub mod Firsts

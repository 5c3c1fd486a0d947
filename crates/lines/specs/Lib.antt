pub mod Pieces
pub mod Line

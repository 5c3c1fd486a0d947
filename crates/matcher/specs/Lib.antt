pub mod Words
pub mod Going
pub mod Spans
pub mod Held
pub mod Hindering
pub mod Marks
pub mod Calls

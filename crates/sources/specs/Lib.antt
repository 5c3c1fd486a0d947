pub mod Faults
pub mod Ahead
pub mod Texts
pub mod Texted
pub mod Trials
pub mod Placing

pub mod Same
pub mod Runs
pub mod Laws

pub mod Acting
pub mod Openings
pub mod Runs

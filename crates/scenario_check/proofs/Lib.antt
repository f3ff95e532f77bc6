pub mod Pushes
pub mod Refusals

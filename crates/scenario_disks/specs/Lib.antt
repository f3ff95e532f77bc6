pub mod Images
pub mod Stops

pub mod Peaks
pub mod Runs
pub mod Samples
pub mod Sent
pub mod Shortened
pub mod Text

pub mod Groups
pub mod Starts
pub mod Holders
pub mod Seen
pub mod Cubs
pub mod Ticks
pub mod Verdicts
pub mod Samples

pub mod Ends
pub mod Rows
pub mod Parts
pub mod Runs
pub mod Sharing

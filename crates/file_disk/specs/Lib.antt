pub mod Devices
pub mod Memory
pub mod Extents
pub mod Parts
pub mod Storing
pub mod Fetching
pub mod Samples
pub mod Kept

pub mod Broken
pub mod Disks
pub mod Whole

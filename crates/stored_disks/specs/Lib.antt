pub mod Disks
pub mod Reading
pub mod Kept
pub mod Faults

pub mod Fields
pub mod Faults
pub mod Mends
pub mod Samples

pub mod Faults
pub mod Laws
pub mod Machine
pub mod Merging
pub mod Samples

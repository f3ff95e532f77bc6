pub mod Stays
pub mod Numbers
pub mod Memory
pub mod Lines
pub mod Scenarios
pub mod Samples

pub mod Meaning
pub mod Orders
pub mod Plans
pub mod Samples

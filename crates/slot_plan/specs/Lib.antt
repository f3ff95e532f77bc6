pub mod Conditions
pub mod Keys
pub mod Samples
pub mod Searches
pub mod Times
pub mod Windows

pub mod Conditions
pub mod Keys
pub mod Next
pub mod Times
pub mod Turns
pub mod Windows

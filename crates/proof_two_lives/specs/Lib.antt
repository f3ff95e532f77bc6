pub mod Laws
pub mod Samples
pub mod Statements
pub mod TwoLives

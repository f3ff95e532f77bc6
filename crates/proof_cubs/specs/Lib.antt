pub mod Claims
pub mod Grounds

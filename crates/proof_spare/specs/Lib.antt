pub mod Added
pub mod Claims
pub mod Laws
pub mod Rings
pub mod Runs

pub mod Causes
pub mod Changes
pub mod Laws
pub mod Outputs

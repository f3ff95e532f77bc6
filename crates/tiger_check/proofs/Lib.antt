pub mod Causes
pub mod Endings

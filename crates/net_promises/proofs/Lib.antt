pub mod Kept
pub mod Means
pub mod Lines
pub mod Causes

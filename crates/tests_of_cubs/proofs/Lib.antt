pub mod Fed
pub mod Kept

pub mod Image
pub mod Parts
pub mod Seen

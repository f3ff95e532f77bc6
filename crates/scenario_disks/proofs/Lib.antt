pub mod Shortness
pub mod InImages

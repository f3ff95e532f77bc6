pub mod AllNodes
pub mod Numbered

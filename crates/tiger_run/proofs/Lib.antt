pub mod Endings
pub mod Answering
pub mod Samples

pub mod Begun
pub mod Cuts
pub mod Drafts
pub mod Reached
pub mod Samples
pub mod Writable

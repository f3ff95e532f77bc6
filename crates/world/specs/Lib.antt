pub mod Dropping
pub mod Living
pub mod Moving
pub mod Posting
pub mod Running
pub mod Samples
pub mod Worlds

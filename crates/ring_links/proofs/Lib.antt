pub mod Orders
pub mod Steps
pub mod Words
pub mod Kept
pub mod Opened
pub mod Tried

pub mod Words
pub mod Lines
pub mod Statuses
pub mod Ends
pub mod Samples

pub mod Commands
pub mod Statuses
pub mod Ends
pub mod Samples

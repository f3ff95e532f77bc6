pub mod Tellings
pub mod Puts
pub mod Words
pub mod Statuses
pub mod Inputs
pub mod Runnable
pub mod Ending
pub mod Samples

pub mod Fair
pub mod Puts
pub mod Stops
pub mod Beliefs
pub mod Failures
pub mod DiskRows
pub mod Verdicts
pub mod Turns

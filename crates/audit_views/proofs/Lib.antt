pub mod Members
pub mod Steps
pub mod Taking
pub mod Judging
pub mod Bringing
pub mod Walk
pub mod Saying

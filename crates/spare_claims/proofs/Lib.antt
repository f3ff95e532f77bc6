pub mod Excuses
pub mod Commands
pub mod Runs

pub mod Words
pub mod Causes
pub mod Written
pub mod Runs

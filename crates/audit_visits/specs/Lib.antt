pub mod Instances
pub mod Once
pub mod Verdicts

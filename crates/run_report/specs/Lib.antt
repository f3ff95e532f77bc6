pub mod Outcomes
pub mod Tables
pub mod Told
pub mod Digests
pub mod Turns
pub mod Text

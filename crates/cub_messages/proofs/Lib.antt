pub mod Adding
pub mod Dropping
pub mod Killed
pub mod Standing
pub mod Visits
pub mod Wants

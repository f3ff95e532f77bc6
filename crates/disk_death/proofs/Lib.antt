pub mod Walks
pub mod Turns
pub mod Events
pub mod DeadFrom

pub mod Claims
pub mod Events
pub mod Lawful
pub mod Openings
pub mod Rings
pub mod Ticks
mod Worlds

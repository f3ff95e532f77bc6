pub mod Orders
pub mod Rules
pub mod State
pub mod Taken

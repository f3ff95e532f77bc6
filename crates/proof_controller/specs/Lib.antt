pub mod Controllers
pub mod Follows
pub mod Orders
pub mod Stops

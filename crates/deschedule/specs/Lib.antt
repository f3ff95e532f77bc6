pub mod Holds
pub mod Order

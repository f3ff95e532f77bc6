pub mod Claims
pub mod Delivery
pub mod Samples

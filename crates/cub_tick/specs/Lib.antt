pub mod Leavings
pub mod Limits
pub mod Splitting
pub mod Working
pub mod Placing

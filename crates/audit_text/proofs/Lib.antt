pub mod Again
pub mod Digits
pub mod Feeds
pub mod Gathering
mod Numbers
pub mod Taking
pub mod Whole

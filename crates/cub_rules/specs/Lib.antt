pub mod Comebacks
pub mod Cubs
pub mod Fresh
pub mod Messages
pub mod Records
pub mod State
pub mod Ticks

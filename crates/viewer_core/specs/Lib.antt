pub mod Came
pub mod Parts
pub mod Rules
pub mod Taken

pub mod Loop
pub mod Sounds

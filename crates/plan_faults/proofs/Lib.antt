pub mod Falses
pub mod Mends

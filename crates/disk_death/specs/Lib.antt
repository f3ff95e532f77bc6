pub mod Deaths
pub mod Spares

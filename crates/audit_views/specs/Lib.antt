pub mod Standing
pub mod Views
pub mod Local
pub mod Verdicts

pub mod Clocks
pub mod Clauses
pub mod Places
pub mod Verdicts
pub mod Counting
pub mod Judgements
pub mod Telling
pub mod Samples

pub mod HeldParts
pub mod Parts
pub mod Places
pub mod Spans

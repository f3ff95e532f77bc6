pub mod Kinds
pub mod Library
pub mod Limits
pub mod Notes
pub mod Records
pub mod Span

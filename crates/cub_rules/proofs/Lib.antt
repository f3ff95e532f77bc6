pub mod Filters
pub mod Finding
pub mod Fresh
pub mod Noted

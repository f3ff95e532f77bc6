pub mod Draws
pub mod Events
pub mod Files
pub mod Made
pub mod Troubles

pub mod Counting
pub mod Fronting
pub mod Asking
pub mod Stepping
pub mod Judging
pub mod Keeping
pub mod Saying

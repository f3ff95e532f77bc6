pub mod InBeat
pub mod InForm
pub mod Keeping
pub mod Keeps
pub mod StartAndStops
pub mod Told

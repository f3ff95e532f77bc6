pub mod Meets
pub mod Texts
pub mod Endings

pub mod Lines
pub mod First
pub mod Tables
pub mod Records
pub mod Shelves
pub mod Samples
pub mod Wanted
pub mod Said

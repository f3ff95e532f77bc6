pub mod Asked
pub mod Audits
pub mod Checks
pub mod Plans

pub mod Accepted
pub mod Accounts
pub mod Claims
pub mod Samples

pub mod Verdict
pub mod Parts
pub mod Steps
pub mod Judging
pub mod Replica
pub mod Calls
pub mod LastChange

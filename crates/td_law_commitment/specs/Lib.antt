pub mod Voted
pub mod Promises

pub mod World
pub mod Calls
pub mod Promises
pub mod Parts
pub mod Sending

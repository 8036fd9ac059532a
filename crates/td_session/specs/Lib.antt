pub mod Calls
pub mod Reads
pub mod Places
pub mod Saved

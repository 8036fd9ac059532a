pub mod Logs
pub mod Places
pub mod AllOps
pub mod Entries
pub mod Part

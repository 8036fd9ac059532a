pub mod Device
pub mod Moments
pub mod Calls
pub mod Events
pub mod Record
pub mod Image
pub mod MemDisk
pub mod Gated

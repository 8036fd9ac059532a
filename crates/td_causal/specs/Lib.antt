pub mod Waiting
pub mod Offering
pub mod BufferParts

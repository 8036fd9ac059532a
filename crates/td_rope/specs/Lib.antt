pub mod ChunkParts
pub mod AmongParts
pub mod Units
pub mod Sizes

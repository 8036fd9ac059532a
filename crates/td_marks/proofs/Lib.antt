pub mod Counts
pub mod Parts
pub mod Meeting
pub mod Names
pub mod Pieces
pub mod Lives
pub mod Listed
pub mod Sets

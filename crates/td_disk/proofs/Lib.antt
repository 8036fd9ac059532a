pub mod Writes
pub mod Images
pub mod Gates
pub mod Growing
pub mod Moments

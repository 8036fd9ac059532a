pub mod Rows
pub mod Messages
pub mod Consistency
pub mod Telling
pub mod Hearing
pub mod Matching
pub mod Own
pub mod Example

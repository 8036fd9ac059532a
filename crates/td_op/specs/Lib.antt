pub mod Op
pub mod Insertion
pub mod Message
pub mod Input
pub mod Past
pub mod Change

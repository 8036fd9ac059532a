pub mod Publishes
pub mod History
pub mod Deeds
pub mod Tied
pub mod Values
pub mod Looks
pub mod Owing
pub mod Parts

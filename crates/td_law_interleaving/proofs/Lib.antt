pub mod NextRow
pub mod Strangers
pub mod Behind
pub mod InFront

pub mod InRange
pub mod Steps
pub mod Due
pub mod Shown
pub mod Nexts
pub mod Going
pub mod Together

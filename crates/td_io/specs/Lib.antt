pub mod Count
pub mod Value
pub mod Whole
pub mod Reading

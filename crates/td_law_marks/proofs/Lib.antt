pub mod Shown
pub mod KeptMarks

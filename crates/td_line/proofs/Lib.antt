pub mod Calling
pub mod Working
pub mod Ending
pub mod Editing

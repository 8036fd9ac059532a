pub mod Typing
pub mod Examples

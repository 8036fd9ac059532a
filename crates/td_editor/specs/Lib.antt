pub mod Screens
pub mod Due
pub mod Editors
pub mod Together

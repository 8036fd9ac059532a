pub mod Generator
pub mod Growth
pub mod Commands

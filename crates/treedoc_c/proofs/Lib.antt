pub mod AsBox
pub mod Padding
pub mod Holding
mod Units

pub mod Agreement
pub mod Unfit
pub mod Parts

pub mod KeptWorld
pub mod Sites
pub mod Seats

pub mod Later
pub mod Workers
pub mod Walk
pub mod Turns
pub mod Rooms
pub mod Closing
pub mod Ending
pub mod Opening

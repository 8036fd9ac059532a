pub mod Reversed
pub mod Rising
pub mod Placed
pub mod Kept

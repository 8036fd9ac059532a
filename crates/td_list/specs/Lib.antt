pub mod Items
pub mod Index
pub mod Places
pub mod Deferred
pub mod Buffered

pub mod Votes
pub mod OwnOps
pub mod Counted
pub mod Made
pub mod Seat

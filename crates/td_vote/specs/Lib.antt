pub mod Commits
pub mod BySite
pub mod ByPlace
pub mod Holds
pub mod HoldsParts

pub mod Thin
pub mod Takes
pub mod Peers
pub mod Accounts
pub mod Rows
pub mod Examples

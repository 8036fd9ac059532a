pub mod Numbers
pub mod Identities

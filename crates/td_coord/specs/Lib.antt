pub mod Tally
pub mod TallyParts
pub mod Places

pub mod RampPlaces
pub mod Standing
pub mod Places
pub mod Logs
pub mod Grown
pub mod Pasts

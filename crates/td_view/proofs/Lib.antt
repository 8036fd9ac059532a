mod Results
mod Prefixes
mod Adding
mod Moves
mod Deeding
mod Legal
mod Standing
mod Counting
mod Owings
pub mod Endings
pub mod Rising

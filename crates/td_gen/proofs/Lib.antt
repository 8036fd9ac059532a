mod Alphabet
mod Growing
mod Making
pub mod Commands

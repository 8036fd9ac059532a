mod Dots
mod Counts

mod Results
mod Pieces
mod Joined
mod Sizes
mod Offsets
mod Standard
mod Chunks

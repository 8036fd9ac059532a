pub mod Promises
pub mod Subtrees
pub mod Headline

pub mod FirstRun
pub mod LiveAtoms
pub mod Steps
pub mod Loading

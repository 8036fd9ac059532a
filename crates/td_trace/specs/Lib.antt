pub mod Editors
pub mod Entries
pub mod Family

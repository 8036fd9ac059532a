pub mod Printing
pub mod LiveRows
pub mod Tracing

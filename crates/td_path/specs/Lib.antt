pub mod Slot
pub mod Infix
pub mod SlotPaths
pub mod Shape
pub use Rattle.td_base.specs.Value
pub use Rattle.td_base.specs.Order

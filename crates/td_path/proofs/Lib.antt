pub mod InfixOrder
pub mod ArrayShape
pub mod SlotOverlap
pub mod SlotEquals

pub mod Vector
pub mod VectorParts

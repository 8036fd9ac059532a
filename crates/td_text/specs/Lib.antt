pub mod Clusters
pub mod Runs
pub mod AtomListParts
pub use Rattle.td_base.specs.Atom

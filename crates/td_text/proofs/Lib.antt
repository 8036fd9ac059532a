pub mod AtomListLemmas
pub mod TextClusters
pub mod PlainText
pub mod RunLemmas
pub mod OwnedAtomsLemmas

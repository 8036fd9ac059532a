pub mod PastLemmas
pub mod InsertionLemmas

pub mod StoredRuns
pub mod StoredRows
pub mod StoredHeads
pub mod StoredChains
pub mod StoredOps

-- Lemmas of calls over all elements.
pub mod IndexesInMemoryOrder
pub mod ElementsHandedToBeWritten
pub mod LackOfMemory
pub mod IndexedChanges
pub mod ClosuresOnTriples
pub mod PairedRuns

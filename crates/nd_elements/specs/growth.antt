-- Definitions for elements that are moved to new storage.
pub mod StorageReadyToGrow
pub mod ElementsMovedOut

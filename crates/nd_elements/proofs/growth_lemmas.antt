-- Lemmas of elements moved to new storage.
pub mod RelayoutToGrow
pub mod ElementsMovedToSeats
pub mod ElementsTakenFromSeats

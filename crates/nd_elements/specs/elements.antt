-- Definitions for loops over all elements.
pub mod AssignedElements
pub mod ElementChanges
pub mod EqualElements
pub mod ElementFolds
pub mod ElementHashes
pub mod ElementMaps
pub mod ElementMapsMut
pub mod PairFolds
pub mod PairMaps
pub mod PairsWithOneWritten
pub mod TransposedRowParts

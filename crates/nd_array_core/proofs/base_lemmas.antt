-- Lemmas of what makes an array and of its elements, read and written.
pub mod NewArraysInOrder
pub mod WritesKeepOthers
pub mod StorageHoldsGivenStrides
pub mod ConstructorLayout
pub mod NewArraysOfOneProperty
pub mod DiagonalWrites
pub mod LastIndexes
pub mod ArraysByCoordinates
pub mod SizesOfThreeLengths

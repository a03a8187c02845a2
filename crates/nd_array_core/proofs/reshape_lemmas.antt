-- Lemmas of other shapes of the same elements, and of elements as one slice.
pub mod AxisLengthLimit
pub mod NewArraysOverVectors
pub mod RunElements
pub mod IndexesAfterReshape
pub mod StridesForReshape
pub mod ElementsListedInOrder
pub mod MemoryOrder
pub mod ElementsInPlaceOrder

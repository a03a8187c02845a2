-- Definitions for other shapes of the same elements, and for elements as one slice.
pub mod ReshapeByRank
pub mod ReshapeLaws
pub mod ElementsAsSlice
pub mod ArrayAfterSliceBorrow
pub mod ServingStrides
pub mod EitherArray

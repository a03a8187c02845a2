-- Lemmas of the laws: what follows from the contracts of several calls.
pub mod LayoutLaws
pub mod PlaceLaws
pub mod BroadcastToOwnShape
pub mod EqualCells
pub mod ViewOrOwnedArrays
pub mod ReshapeLaws
pub mod QuotientsByVariables
pub mod SliceUndoesAppend
pub mod ViewsRepeatNoElement
pub mod StandardLayoutByPlaces
pub mod ReshapeKeepsOrder

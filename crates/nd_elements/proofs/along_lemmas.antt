-- Lemmas of loops along one axis.
pub mod AccumulateOneLane
pub mod AxisLanes
pub mod LaneNumbers
pub mod LanePart
pub mod AccumulateLaneAsSlice
pub mod LaneThrough
pub mod IndexesLaneByLane
pub mod LanesAccumulating
pub mod PlacesOfLanesByIndex
pub mod LanesFolding
pub mod LanesLentAsParts
pub mod NeighboursInLane
pub mod AccumulateBetweenTwoPlaces
pub mod RowPairs
pub mod RowsAccumulating
pub mod RotatedLanes

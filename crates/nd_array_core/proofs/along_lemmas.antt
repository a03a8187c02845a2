-- Lemmas of calls along one axis.
pub mod AxisAccumulating
pub mod SelectedCoordinates
pub mod IndexesByLanePosition
pub mod AxisFolds
pub mod HandedLanes
pub mod LanesAsViews
pub mod LanePlacesByIndex
pub mod CoordinateRemovedFromAxis
pub mod LastAxisLanes
pub mod LaneParts

-- Definitions for loops along one axis.
pub mod AccumulateAlongAxis
pub mod AxisLanes
pub mod FoldOfLanes
pub mod PlacesOfAxisLanes
pub mod LanesWritten
pub mod RemovedIndex
pub mod CallsRisingAlongLanes

-- Words for calls along one axis, of storages and of arrays.
pub use Rattle.nd_elements.specs.along.AccumulateAlongAxis
pub use Rattle.nd_elements.specs.along.AxisLanes
pub use Rattle.nd_elements.specs.along.RemovedIndex
pub use Rattle.nd_elements.specs.along.CallsRisingAlongLanes
pub mod SelectedCoordinates
pub mod AxisFolds
pub mod AxisMaps
pub mod LanesOfArrayWritten
pub mod LanesOfLastAxis
pub mod RotatedLanes

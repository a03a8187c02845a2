-- Lemmas of layout calls as steps: each new index names an old one at the same place.
pub mod StepsKeepValidLayouts
pub mod PlaceComputedByAxes
pub mod AxisCollapseSplitInvert
pub mod BroadcastStep
pub mod DiagonalStep
pub mod SliceEachAxisLoop
pub mod SwappedOrReversedAxes
pub mod GivenStrides
pub mod IndexedAndNewAxesStep
pub mod PermuteStep
pub mod IndexAxisAndInsertAxis
pub mod SliceLoop
pub mod SliceListInOnePass
pub mod SlicingOneAxis
pub mod SqueezeStep
pub mod NewLayoutsInAnOrder
pub mod MergeStep

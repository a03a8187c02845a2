-- Lemmas of layouts that grow along an axis.
pub mod GrowingStrides
pub mod AxisOfAnyLength
pub mod GrownLayout
pub mod LongerBoxes
pub mod ReadyToGrowAgain
pub mod FreshStorageAxisOrder

-- Lemmas of the same places in another order, or cut in halves.
pub mod MemoryOrder
pub mod MergedAlike
pub mod AxisJoins
pub mod RunAsOneLane
pub mod HalvedLayouts
pub mod FollowingHalves
pub mod RearrangedPlaces
pub mod FurthestSteppingAxis
pub mod FullStorageAfterAppend

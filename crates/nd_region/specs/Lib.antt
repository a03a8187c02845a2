pub mod LenderAfterBorrow
pub mod RegionMemory
pub mod RegionPlaces
pub mod Region
pub mod ScopedRegionCalls
pub mod SharedRegion

-- Definitions for owned arrays that grow.
pub use Rattle.nd_elements.specs.growth.StorageReadyToGrow
pub use Rattle.nd_elements.specs.growth.ElementsMovedOut
pub mod ReservedAlongAxis
pub mod Append
pub mod StorageOfAppend
pub mod AppendOutcomes
pub mod AppendEach
pub mod AppendedSlicedBack

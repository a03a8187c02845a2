pub mod ChunksAlongAxis
pub mod ElementsLeftInIteration
pub mod IteratedElements
pub mod WindowsAndBlocks
pub mod AxisLanes

pub mod ChunksBegin
pub mod IndexedElements
pub mod LaneElementsTaken
pub mod ListEndsTaken
pub mod EqualPartsAlongAxis
pub mod RowElementsTaken
pub mod CallsOnTheListLeft

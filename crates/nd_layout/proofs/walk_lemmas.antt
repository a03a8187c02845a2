-- Lemmas of the places of a layout one by one, and by lanes.
pub mod NextIndexOfWalk
pub mod PlacesCutIntoLanes
pub mod RunsOfPlaces
pub mod LanesLoop
pub mod LaneIndexes
pub mod JoinedAxesAsLane

-- The lanes of places: what a loop over them keeps, and the lane that it is at.
use Rattle.nd_layout.proofs.NamesFromOtherCrates.{◌≡◌, ◌∙◌, ap, size_of}
use Rattle.nd_layout.specs.NumberedPlacesAndWalks.{AreLanesOf, AreSameLanes}
use Rattle.nd_layout.specs.RowMajorWalk.{IsLane}
use Rattle.nd_layout.specs.declared.walk.lane.Lane.{Lane}
use Rattle.nd_layout.specs.declared.walk.lanes.Lanes.{Lanes}
use Rattle.nd_layout.specs.declared.walk.layout_as_lanes.Places.{Places}

-- a step goes on over the same places
pub go_on : (places : Places) (old new : Lanes) → AreLanesOf places old → AreSameLanes old new → AreLanesOf places new
go_on places old new of same = (same.0 ∙ of.0, same.1 ∙ of.1, same.2 ∙ of.2)

-- the lane that is given next has the places from the rank of the lanes on
pub lane_of : (places : Places) (lanes : Lanes) (lane : Lane) → AreLanesOf places lanes → IsLane lanes.first lanes.lengths.now lanes.strides.now lanes.rank lane.place lane.count lane.stride
    → IsLane places.first places.lengths.now places.strides.now lanes.rank lane.place lane.count lane.stride
lane_of places lanes lane of given = rw (of.0, of.1, of.2) at given

-- once no lane is left, all places are through
pub all_through : (places : Places) (lanes : Lanes) → AreLanesOf places lanes → lanes.rank ≡ size_of lanes.lengths.now → lanes.rank ≡ size_of places.lengths.now
all_through places lanes of ended = ended ∙ ap size_of of.1

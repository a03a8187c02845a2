-- The places of the lanes of an axis that one `AxisLanes` value holds.
use Rattle.nd_layout.specs.NumberedPlacesAndWalks.{placement_in}
use Rattle.nd_elements.specs.along.AxisLanes.{LanePlaces, lanes_from}
use Rattle.nd_elements.specs.declared.along.axis_lanes.AxisLanes.{AxisLanes}

abbrev pub lanes_in : AxisLanes → LanePlaces
lanes_in lanes = lanes_from (placement_in lanes.firsts) lanes.count lanes.stride

use Rattle.nd_elements.proofs.NamesFromOtherCrates.{◌∙◌, refl, along}
use Rattle.nd_elements.specs.along.PlacesOfAxisLanes.{lanes_in}
use Rattle.nd_elements.specs.along.RemovedIndex.{rotated}
use Rattle.nd_elements.proofs.along_lemmas.AxisLanes.{lane_in_turn}
use Rattle.nd_elements.proofs.along_lemmas.RotatedLanes.{lane_apart, lane_holds, lane_moved, rotated_below}
use Rattle.nd_elements.proofs.along.remove_index.rotate_lanes.Goals as goal

pub rotate_lane-requires-clause-apart : goal.rotate_lane-requires-clause-apart
rotate_lane-requires-clause-apart g c =
    let at = lanes_in c.args.lanes in let here = lane_in_turn c.in-Some.lane c.loop-lane.invariant.0 c.in-Some.ensures.lane.0 in
    let lane = along c.in-Some.lane in
    lane_apart at.place at.count (rotated c.args.from at.count) (g.S.Data.stored c.args.storage.now) c.loop-lane.turns.given at.lanes here.0 c.requires.apart lane.place lane.count here.1 here.2

pub rotate_lane-requires-clause-holds : goal.rotate_lane-requires-clause-holds
rotate_lane-requires-clause-holds g c =
    let at = lanes_in c.args.lanes in let here = lane_in_turn c.in-Some.lane c.loop-lane.invariant.0 c.in-Some.ensures.lane.0 in
    let lane = along c.in-Some.lane in
    lane_holds at.place at.count (rotated c.args.from at.count) (g.S.Data.stored c.args.storage.now) c.loop-lane.turns.given at.lanes here.0 c.requires.apart lane.place lane.count here.1 here.2 (g.S.Data.stored c.loop-lane.storage) c.requires.holds c.loop-lane.invariant.1

pub loop-lane-preserved : goal.loop-lane-preserved
loop-lane-preserved g c =
    let at = lanes_in c.args.lanes in let so_far = c.loop-lane.invariant in
    let here = lane_in_turn c.in-Some.lane so_far.0 c.in-Some.ensures.lane.0 in
    let lane = along c.in-Some.lane in (
      c.in-Some.ensures.lanes ∙ so_far.0,
      lane_moved at.place at.count (rotated c.args.from at.count) (g.S.Data.stored c.args.storage.now) c.loop-lane.turns.given at.lanes here.0 c.requires.apart lane.place lane.count here.1 here.2
          c.next.new.self.given c.in-Some.ensures.lane.1 (rotated c.args.from) refl (λ k below. rotated_below c.args.from at.count k c.requires.from below)
          (g.S.Data.stored c.loop-lane.storage) (g.S.Data.stored c.rotate_lane.new.storage) so_far.1 c.rotate_lane.ensures.moved,
      c.rotate_lane.ensures.frame ∙ so_far.2,
    )

use Rattle.nd_array_core.proofs.NamesFromOtherCrates.{◌≡◌, pos, sym, ◌∙◌, rules, stored_along, shown_by, contiguous_has, contiguous_found}
use Rattle.nd_array_core.specs.along.AxisMaps.{lane_seen}
use Rattle.nd_array_core.proofs.along_lemmas.LastAxisLanes.{lane_opens}
use Rattle.nd_array_core.proofs.along.lane_view.LaneView.to_slice.Goals as goal

pub run-requires : goal.run-requires
run-requires g c =
    let v = c.args.self.now in
    let one : v.lane.stride ≡ pos 1 = search rules in
    contiguous_has (shown_by v.storage) v.lane.place v.lane.count v.lane.stride one v.holds

pub returns-clause-elements : goal.returns-clause-elements
unfolding lane_seen
returns-clause-elements g c k below =
    let v = c.args.self.now in
    let one : v.lane.stride ≡ pos 1 = search rules in
    contiguous_found (shown_by v.storage) v.lane.place v.lane.count v.lane.stride one c.run.result.now c.run.ensures.count c.run.ensures.elements k below
    ∙ sym (lane_opens v.lane.count k (stored_along (shown_by v.storage) v.lane.place v.lane.stride k) below)

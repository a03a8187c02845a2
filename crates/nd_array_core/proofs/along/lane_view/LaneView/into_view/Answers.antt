use Rattle.nd_array_core.proofs.NamesFromOtherCrates.{ap, shown_by}
use Rattle.nd_array_core.specs.ArrayMeaning.{meaning_of}
use Rattle.nd_array_core.specs.along.AxisMaps.{lane_seen}
use Rattle.nd_array_core.proofs.along_lemmas.LanesAsViews.{lane_inside, lane_shows}
use Rattle.nd_array_core.proofs.along.lane_view.LaneView.into_view.Goals as goal

pub invariant_of-result : goal.invariant_of-result
invariant_of-result g c =
    let v = c.args.self in
    let layout = c.layout_of.result in
    record {
      inside = lane_inside (shown_by v.storage) layout.offset layout.dim.lens layout.strides v.lane.place v.lane.count v.lane.stride c.layout_of.ensures.offset c.layout_of.ensures.lengths c.layout_of.ensures.strides v.holds;
      separated = λ alone some. absurd cc;
    }

pub returns-clause-meaning : goal.returns-clause-meaning
unfolding meaning_of lane_seen
returns-clause-meaning g c =
    let v = c.args.self in
    let layout = c.layout_of.result in
    lane_shows (shown_by v.storage) layout.offset layout.dim.lens layout.strides v.lane.place v.lane.count v.lane.stride c.layout_of.ensures.offset c.layout_of.ensures.lengths c.layout_of.ensures.strides

pub returns-clause-shape : goal.returns-clause-shape
returns-clause-shape g c = ap (λ m. m.shape) (returns-clause-meaning g c)

pub returns-clause-elements : goal.returns-clause-elements
returns-clause-elements g c i = ap (λ m. m.at i) (returns-clause-meaning g c)

use Rattle.nd_array_core.proofs.NamesFromOtherCrates.{◌∙◌, ◌<◌, Some, refl, sym, subst, place_of, Meaning, inside, stored_at, lanes_hold, others_stayed, still_holds_all}
use Rattle.nd_array_core.specs.ArrayMeaning.{meaning_of, memory_layout_of, shape_of}
use Rattle.nd_array_core.proofs.along_lemmas.HandedLanes.{lanes_taken, lanes_answered, lanes_left, units_there}
use Rattle.nd_array_core.proofs.along.map_axis_mut.ArrayBase+S+D.for_each_lane_mut.Goals as goal

pub hand_lanes-requires-clause-apart : goal.hand_lanes-requires-clause-apart
hand_lanes-requires-clause-apart g c = c.lanes_along-lanes.ensures.apart (c.args.self.now.separated g.met.S.DataMut.alone)

pub hand_lanes-requires-clause-holds : goal.hand_lanes-requires-clause-holds
hand_lanes-requires-clause-holds g c = lanes_hold c.lanes_along-lanes.ensures.along (g.S.Data.stored c.args.self.now.storage) c.args.self.now.inside

pub hand_lanes-requires-clause-callable : goal.hand_lanes-requires-clause-callable
unfolding meaning_of memory_layout_of
hand_lanes-requires-clause-callable g c = lanes_taken c.lanes_along-lanes.ensures.along g.F.FnMut (g.S.Data.stored c.args.self.now.storage) c.args.f c.requires.callable

pub invariant_of-self : goal.invariant_of-self
invariant_of-self g c =
    let array = c.args.self.now in
    record {
      inside = still_holds_all (g.S.Data.stored array.storage) (g.S.Data.stored c.hand_lanes.new.storage) array.layout.offset (g.D.Dimension.lengths array.layout.dim) (g.D.Strides.StrideList.strides_of array.layout.strides) c.hand_lanes.ensures.there array.inside;
      separated = array.separated;
    }

pub returns : goal.returns
unfolding meaning_of memory_layout_of
returns g c =
    let array = c.args.self.now in
    let after : Meaning _ = record { shape = shape_of array; at = λ i. inside (shape_of array) i (stored_at (g.S.Data.stored c.hand_lanes.new.storage) (place_of array.layout.offset (g.D.Strides.StrideList.strides_of array.layout.strides) i)) } in
    let handed = c.hand_lanes.ensures.handed in
    let many = handed.1 ∙ c.lanes_along-lanes.ensures.along.lanes in
    let visits = lanes_answered c.lanes_along-lanes.ensures.along g.F.FnMut (g.S.Data.stored array.storage) c.args.f (g.S.Data.stored c.hand_lanes.new.storage) c.hand_lanes.result handed.0 handed.2 (λ _. Some tt) (λ k below. units_there handed.0 k (subst (λ n. k < n) (sym many) below)) in
    record {
      visits = visits;
      alike = λ h by. lanes_left g.F.FnMut (meaning_of array) after c.args.axis.0 c.requires.axis refl (λ _. Some tt) c.args.f visits h by;
      frame = (refl, refl, (λ i. refl), others_stayed c.lanes_along-lanes.ensures.along (g.S.Data.stored c.args.self.now.storage) (g.S.Data.stored c.hand_lanes.new.storage) handed.2.left, c.hand_lanes.ensures.frame, refl);
    }

use Rattle.nd_array_core.proofs.NamesFromOtherCrates.{◌<◌, sym, subst, refl, lanes_hold}
use Rattle.nd_array_core.specs.ArrayMeaning.{meaning_of, memory_layout_of}
use Rattle.nd_array_core.proofs.along_lemmas.AxisAccumulating.{axis_accumulable, axis_visits, axis_first, axis_holds, axis_others}
use Rattle.nd_array_core.proofs.along.accumulate_axis.ArrayBase+S+D.accumulate_some.Goals as goal

pub accumulate_lanes-requires-clause-some : goal.accumulate_lanes-requires-clause-some
unfolding meaning_of memory_layout_of
accumulate_lanes-requires-clause-some g c = subst (λ n. 0 < n) (sym c.lanes_through-lanes.ensures.through.count) c.requires.some

pub accumulate_lanes-requires-clause-apart : goal.accumulate_lanes-requires-clause-apart
accumulate_lanes-requires-clause-apart g c = c.lanes_through-lanes.ensures.apart (c.args.self.now.separated g.met.S.DataMut.alone)

pub accumulate_lanes-requires-clause-holds : goal.accumulate_lanes-requires-clause-holds
accumulate_lanes-requires-clause-holds g c = lanes_hold c.lanes_through-lanes.ensures.through (g.S.Data.stored c.args.self.now.storage) c.args.self.now.inside

pub accumulate_lanes-requires-clause-callable : goal.accumulate_lanes-requires-clause-callable
unfolding meaning_of memory_layout_of
accumulate_lanes-requires-clause-callable g c = axis_accumulable c.requires.axis c.args.self.now.layout.as_many c.lanes_through-lanes.ensures.through c.requires.some g.F.FnMut (g.S.Data.stored c.args.self.now.storage) c.args.f c.requires.callable

pub invariant_of-self : goal.invariant_of-self
unfolding meaning_of memory_layout_of
invariant_of-self g c =
    let array = c.args.self.now in
    record {
      inside = axis_holds c.requires.axis array.layout.as_many c.lanes_through-lanes.ensures.through c.requires.some g.F.FnMut (g.S.Data.stored array.storage) c.args.f (g.S.Data.stored c.accumulate_lanes.new.storage) c.accumulate_lanes.result c.accumulate_lanes.ensures.accumulated (array.separated g.met.S.DataMut.alone) array.inside;
      separated = array.separated;
    }

pub returns : goal.returns
unfolding meaning_of memory_layout_of
returns g c =
    let array = c.args.self.now in
    record {
      visits = axis_visits c.requires.axis array.layout.as_many c.lanes_through-lanes.ensures.through c.requires.some g.F.FnMut (g.S.Data.stored array.storage) c.args.f (g.S.Data.stored c.accumulate_lanes.new.storage) c.accumulate_lanes.result c.accumulate_lanes.ensures.accumulated;
      first = axis_first c.requires.axis array.layout.as_many c.lanes_through-lanes.ensures.through c.requires.some g.F.FnMut (g.S.Data.stored array.storage) c.args.f (g.S.Data.stored c.accumulate_lanes.new.storage) c.accumulate_lanes.result c.accumulate_lanes.ensures.accumulated (array.separated g.met.S.DataMut.alone);
      frame = (refl, refl, λ i. refl, axis_others c.requires.axis array.layout.as_many c.lanes_through-lanes.ensures.through c.requires.some g.F.FnMut (g.S.Data.stored array.storage) c.args.f (g.S.Data.stored c.accumulate_lanes.new.storage) c.accumulate_lanes.result c.accumulate_lanes.ensures.accumulated, c.accumulate_lanes.ensures.frame, refl);
    }

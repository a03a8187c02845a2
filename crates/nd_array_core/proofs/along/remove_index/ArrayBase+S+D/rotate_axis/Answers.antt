use Rattle.nd_array_core.proofs.NamesFromOtherCrates.{◌<◌, sym, subst, refl, lanes_hold, others_stayed}
use Rattle.nd_array_core.specs.ArrayMeaning.{meaning_of, memory_layout_of}
use Rattle.nd_array_core.proofs.along_lemmas.LanePlacesByIndex.{rotated_holds, rotated_element}
use Rattle.nd_array_core.proofs.along.remove_index.ArrayBase+S+D.rotate_axis.Goals as goal

pub rotate_lanes-requires-clause-from : goal.rotate_lanes-requires-clause-from
unfolding meaning_of memory_layout_of
rotate_lanes-requires-clause-from g c = subst (λ n. c.args.index < n) (sym c.lanes_through-lanes.ensures.through.count) c.requires.within

pub rotate_lanes-requires-clause-apart : goal.rotate_lanes-requires-clause-apart
rotate_lanes-requires-clause-apart g c = c.lanes_through-lanes.ensures.apart (c.args.self.now.separated g.met.S.DataMut.alone)

pub rotate_lanes-requires-clause-holds : goal.rotate_lanes-requires-clause-holds
rotate_lanes-requires-clause-holds g c = lanes_hold c.lanes_through-lanes.ensures.through (g.S.Data.stored c.args.self.now.storage) c.args.self.now.inside

pub invariant_of-self : goal.invariant_of-self
unfolding meaning_of memory_layout_of
invariant_of-self g c =
    let array = c.args.self.now in
    record {
      inside = rotated_holds c.requires.axis c.lanes_through-lanes.ensures.through c.args.index c.requires.within (g.S.Data.stored array.storage) (g.S.Data.stored c.rotate_lanes.new.storage) c.rotate_lanes.ensures.moved array.inside;
      separated = array.separated;
    }

pub returns : goal.returns
unfolding meaning_of memory_layout_of
returns g c =
    let array = c.args.self.now in
    record {
      elements = rotated_element c.requires.axis c.lanes_through-lanes.ensures.through c.args.index c.requires.within (g.S.Data.stored array.storage) (g.S.Data.stored c.rotate_lanes.new.storage) c.rotate_lanes.ensures.moved;
      frame = let moved = c.rotate_lanes.ensures.moved in
          (refl, refl, λ i. refl, others_stayed c.lanes_through-lanes.ensures.through (g.S.Data.stored array.storage) (g.S.Data.stored c.rotate_lanes.new.storage) moved.left, c.rotate_lanes.ensures.frame, refl);
    }

use Rattle.nd_array_core.proofs.NamesFromOtherCrates.{refl}
use Rattle.nd_array_core.specs.ArrayMeaning.{meaning_of, memory_layout_of}
use Rattle.nd_array_core.proofs.tasks.ClosureOnPartViews.{others_stay, part_within, part_lies, part_seen, parts_done}
use Rattle.nd_array_core.proofs.tasks.ClosureOnView.{still_holds}
use Rattle.nd_array_core.proofs.scoped.with_split_at.ArrayBase+S+D.with_split_at.Goals as goal

pub invariant_of-self : goal.invariant_of-self
invariant_of-self g c =
    let array = c.args.self.now in
    let old = array.layout in
    record {
      inside = still_holds (g.S.Data.stored array.storage) old.offset (g.D.Dimension.lengths old.dim) (g.D.Strides.StrideList.strides_of old.strides) (g.S.Data.stored c.with_placement_pair.new.storage) c.with_placement_pair.ensures.there array.inside;
      separated = array.separated;
    }

pub with_placement_pair-requires-clause-one : goal.with_placement_pair-requires-clause-one
with_placement_pair-requires-clause-one g c = part_lies c.args.self.now c.halves-lower.ensures.lower g.met.S.DataMut.alone

pub with_placement_pair-requires-clause-two : goal.with_placement_pair-requires-clause-two
with_placement_pair-requires-clause-two g c = part_lies c.args.self.now c.halves-lower.ensures.upper g.met.S.DataMut.alone

pub with_placement_pair-requires-clause-one_within : goal.with_placement_pair-requires-clause-one_within
with_placement_pair-requires-clause-one_within g c = part_within c.args.self.now c.halves-lower.ensures.lower

pub with_placement_pair-requires-clause-two_within : goal.with_placement_pair-requires-clause-two_within
with_placement_pair-requires-clause-two_within g c = part_within c.args.self.now c.halves-lower.ensures.upper

pub with_placement_pair-requires-clause-callable : goal.with_placement_pair-requires-clause-callable
unfolding meaning_of
with_placement_pair-requires-clause-callable g c m1 m2 is_one is_two = c.requires.callable _ _ (part_seen c.args.self.now c.halves-lower.ensures.lower c.halves-lower.ensures.lower_lengths m1 is_one) (part_seen c.args.self.now c.halves-lower.ensures.upper c.halves-lower.ensures.upper_lengths m2 is_two)

pub returns-clause-frame : goal.returns-clause-frame
unfolding meaning_of memory_layout_of
returns-clause-frame g c = (refl, refl, (λ i. refl), others_stay c.args.self.now c.with_placement_pair.new.storage c.with_placement_pair.ensures.others, c.with_placement_pair.ensures.frame, refl)

pub returns-clause-done : goal.returns-clause-done
unfolding meaning_of memory_layout_of
returns-clause-done g c = parts_done c.args.self.now c.halves-lower.ensures.lower c.halves-lower.ensures.upper c.halves-lower.ensures.lower_lengths c.halves-lower.ensures.upper_lengths c.with_placement_pair.new.storage c.with_placement_pair.ensures.done

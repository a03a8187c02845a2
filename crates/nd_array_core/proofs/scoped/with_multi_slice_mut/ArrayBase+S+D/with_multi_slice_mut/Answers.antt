use Rattle.nd_array_core.proofs.NamesFromOtherCrates.{refl}
use Rattle.nd_array_core.specs.ArrayMeaning.{meaning_of, memory_layout_of}
use Rattle.nd_array_core.proofs.layout_lemmas.DisjointSliceLists.{lists_apart}
use Rattle.nd_array_core.proofs.tasks.ClosureOnPartViews.{others_stay, part_within, part_lies, part_seen, parts_kept, parts_done}
use Rattle.nd_array_core.proofs.scoped.with_multi_slice_mut.ArrayBase+S+D.with_multi_slice_mut.Goals as goal

pub with_placement_pair-requires-clause-one : goal.with_placement_pair-requires-clause-one
with_placement_pair-requires-clause-one g c = part_lies c.args.self.now c.sliced_by-first.ensures.list_step g.met.S.DataMut.alone

pub with_placement_pair-requires-clause-two : goal.with_placement_pair-requires-clause-two
with_placement_pair-requires-clause-two g c = part_lies c.args.self.now c.sliced_by-second.ensures.list_step g.met.S.DataMut.alone

pub with_placement_pair-requires-clause-one_within : goal.with_placement_pair-requires-clause-one_within
with_placement_pair-requires-clause-one_within g c = part_within c.args.self.now c.sliced_by-first.ensures.list_step

pub with_placement_pair-requires-clause-two_within : goal.with_placement_pair-requires-clause-two_within
with_placement_pair-requires-clause-two_within g c = part_within c.args.self.now c.sliced_by-second.ensures.list_step

pub with_placement_pair-requires-clause-apart : goal.with_placement_pair-requires-clause-apart
unfolding meaning_of
with_placement_pair-requires-clause-apart g c = lists_apart c.args.self.now g.met.S.DataMut.alone c.sliced_by-first.ensures.lengths_are c.sliced_by-first.ensures.list_step c.sliced_by-second.ensures.lengths_are c.sliced_by-second.ensures.list_step c.requires.fits.2

pub with_placement_pair-requires-clause-callable : goal.with_placement_pair-requires-clause-callable
unfolding meaning_of
with_placement_pair-requires-clause-callable g c m1 m2 is_one is_two = c.requires.callable _ _ (part_seen c.args.self.now c.sliced_by-first.ensures.list_step c.sliced_by-first.ensures.lengths_are m1 is_one) (part_seen c.args.self.now c.sliced_by-second.ensures.list_step c.sliced_by-second.ensures.lengths_are m2 is_two)

pub returns-clause-frame : goal.returns-clause-frame
unfolding meaning_of memory_layout_of
returns-clause-frame g c = (refl, refl, (λ i. refl), others_stay c.args.self.now c.with_placement_pair.new.storage c.with_placement_pair.ensures.others, c.with_placement_pair.ensures.frame, refl)

pub returns-clause-kept : goal.returns-clause-kept
unfolding meaning_of
returns-clause-kept g c = parts_kept c.args.self.now c.sliced_by-first.ensures.list_step c.sliced_by-second.ensures.list_step c.sliced_by-first.ensures.lengths_are c.sliced_by-second.ensures.lengths_are g.met.S.DataMut.alone c.with_placement_pair.new.storage c.with_placement_pair.ensures.kept

pub returns-clause-done : goal.returns-clause-done
unfolding meaning_of memory_layout_of
returns-clause-done g c = parts_done c.args.self.now c.sliced_by-first.ensures.list_step c.sliced_by-second.ensures.list_step c.sliced_by-first.ensures.lengths_are c.sliced_by-second.ensures.lengths_are c.with_placement_pair.new.storage c.with_placement_pair.ensures.done

use Rattle.nd_array_core.proofs.NamesFromOtherCrates.{refl}
use Rattle.nd_array_core.specs.ArrayMeaning.{meaning_of, memory_layout_of}
use Rattle.nd_array_core.proofs.tasks.ClosureOnPartViews.{part_lies, part_lent, part_stays, part_kept, part_done}
use Rattle.nd_array_core.proofs.scoped.with_slice_mut.ArrayBase+S+D.with_diag_mut.Goals as goal

pub with_placement-requires-clause-sound : goal.with_placement-requires-clause-sound
with_placement-requires-clause-sound g c = part_lies c.args.self.now c.diagonal-layout.ensures.step g.met.S.DataMut.alone

pub with_placement-requires-clause-callable : goal.with_placement-requires-clause-callable
unfolding meaning_of
with_placement-requires-clause-callable g c k named = c.requires.callable _ (part_lent c.args.self.now c.diagonal-layout.ensures.step c.diagonal-layout.ensures.lengths k named)

pub returns : goal.returns
unfolding meaning_of memory_layout_of
returns g c =
    record {
      frame = (refl, refl, (λ i. refl), part_stays c.args.self.now c.diagonal-layout.ensures.step c.with_placement.new.storage c.with_placement.ensures.kept, c.with_placement.ensures.frame, refl);
      kept = part_kept c.args.self.now c.diagonal-layout.ensures.step c.diagonal-layout.ensures.lengths g.met.S.DataMut.alone c.with_placement.new.storage c.with_placement.ensures.kept;
      done = part_done c.args.self.now c.diagonal-layout.ensures.step c.diagonal-layout.ensures.lengths c.with_placement.new.storage c.with_placement.ensures.done;
    }

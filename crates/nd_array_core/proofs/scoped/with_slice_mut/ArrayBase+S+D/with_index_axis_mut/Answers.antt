use Rattle.nd_array_core.proofs.NamesFromOtherCrates.{refl}
use Rattle.nd_array_core.specs.ArrayMeaning.{meaning_of, memory_layout_of}
use Rattle.nd_array_core.proofs.tasks.ClosureOnPartViews.{part_lies, part_lent, part_stays, part_kept, part_done}
use Rattle.nd_array_core.proofs.tasks.ClosureOnView.{still_holds}
use Rattle.nd_array_core.proofs.scoped.with_slice_mut.ArrayBase+S+D.with_index_axis_mut.Goals as goal

pub invariant_of-self : goal.invariant_of-self
invariant_of-self g c =
    let array = c.args.self.now in
    let old = array.layout in
    record {
      inside = still_holds (g.S.Data.stored array.storage) old.offset (g.D.Dimension.lengths old.dim) (g.D.Strides.StrideList.strides_of old.strides) (g.S.Data.stored c.with_placement.new.storage) c.with_placement.ensures.there array.inside;
      separated = array.separated;
    }

pub with_placement-requires-clause-sound : goal.with_placement-requires-clause-sound
with_placement-requires-clause-sound g c = part_lies c.args.self.now c.index_axis-layout.ensures.step g.met.S.DataMut.alone

pub with_placement-requires-clause-callable : goal.with_placement-requires-clause-callable
unfolding meaning_of
with_placement-requires-clause-callable g c k named = c.requires.callable _ (part_lent c.args.self.now c.index_axis-layout.ensures.step c.index_axis-layout.ensures.lengths k named)

pub returns : goal.returns
unfolding meaning_of memory_layout_of
returns g c =
    record {
      frame = (refl, refl, (λ i. refl), part_stays c.args.self.now c.index_axis-layout.ensures.step c.with_placement.new.storage c.with_placement.ensures.kept, c.with_placement.ensures.frame, refl);
      kept = part_kept c.args.self.now c.index_axis-layout.ensures.step c.index_axis-layout.ensures.lengths g.met.S.DataMut.alone c.with_placement.new.storage c.with_placement.ensures.kept;
      done = part_done c.args.self.now c.index_axis-layout.ensures.step c.index_axis-layout.ensures.lengths c.with_placement.new.storage c.with_placement.ensures.done;
    }

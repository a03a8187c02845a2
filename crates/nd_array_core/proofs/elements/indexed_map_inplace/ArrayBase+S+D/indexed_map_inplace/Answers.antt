use Rattle.nd_array_core.proofs.NamesFromOtherCrates.{refl, place_of, inside, stored_at, ranks_apart, others_stay, one_index}
use Rattle.nd_layout.proofs.order_lemmas.RearrangedPlaces.{rearranged_itself}
use Rattle.nd_array_core.specs.ArrayMeaning.{meaning_of, memory_layout_of}
use Rattle.nd_array_core.proofs.elements_lemmas.IndexedChanges.{indexed_all, indexed_holds, indexed_settled}
use Rattle.nd_array_core.proofs.elements.indexed_map_inplace.ArrayBase+S+D.indexed_map_inplace.Goals as goal

pub change_by_index-requires-clause-apart : goal.change_by_index-requires-clause-apart
change_by_index-requires-clause-apart g c =
    let array = c.args.self.now in
    let l = array.layout in
    let ns = g.D.Dimension.lengths l.dim in
    let ss = g.D.Strides.StrideList.strides_of l.strides in
    ranks_apart l.offset ns ss l.offset ns ss (rearranged_itself l.offset ns ss) (λ i j h q same. one_index ns ss l.offset i j l.as_many (array.separated g.met.S.DataMut.alone) h q same)

pub invariant_of-self : goal.invariant_of-self
invariant_of-self g c =
    let array = c.args.self.now in
    let l = array.layout in
    record {
      inside = indexed_holds g.F.FnMut g.D.IntoPattern.pattern_lengths l.offset (g.D.Dimension.lengths l.dim) (g.D.Strides.StrideList.strides_of l.strides)
          (g.S.Data.stored array.storage) (g.S.Data.stored c.change_by_index.new.storage) c.args.f c.change_by_index.result c.change_by_index.ensures.changed;
      separated = array.separated;
    }

pub returns : goal.returns
unfolding meaning_of memory_layout_of
returns g c =
    let array = c.args.self.now in
    let l = array.layout in
    let ns = g.D.Dimension.lengths l.dim in
    let ss = g.D.Strides.StrideList.strides_of l.strides in
    let old = g.S.Data.stored array.storage in
    let new = g.S.Data.stored c.change_by_index.new.storage in
    let visits = indexed_all g.F.FnMut g.D.IntoPattern.pattern_lengths l.offset ns ss old new c.args.f c.change_by_index.result c.change_by_index.ensures.changed in
    record {
      visits = visits;
      alike = λ h by. record { elements = indexed_settled g.F.FnMut g.D.IntoPattern.pattern_lengths ns (λ i. inside ns i (stored_at old (place_of l.offset ss i))) (λ i. inside ns i (stored_at new (place_of l.offset ss i))) c.args.f (λ i out. rw out refl) (λ i out. rw out refl) visits h by };
      frame = (refl, refl, (λ i. refl), others_stay l.offset ns ss l.offset ns ss (rearranged_itself l.offset ns ss) old new c.change_by_index.ensures.changed.left, c.change_by_index.ensures.frame, refl);
    }

use Rattle.nd_array_core.proofs.NamesFromOtherCrates.{subst, sym, fun_ext, false≢true, HoldsAll, seen_holds}
use Rattle.nd_array_core.specs.ArrayMeaning.{meaning_of, memory_layout_of}
use Rattle.nd_array_core.proofs.reshape.serving_strides.served_view.Goals as goal

pub invariant_of-result : goal.invariant_of-result
invariant_of-result g c =
    let array = c.args.array.now in
    let layout = c.in-Some.layout in
    record {
      inside = subst (λ f. HoldsAll f layout.offset (g.E.Dimension.lengths layout.dim) (g.E.Strides.StrideList.strides_of layout.strides)) (sym (fun_ext c.borrowed.ensures)) (seen_holds (g.S.Data.stored array.storage) c.in-Some.ensures.seen array.inside);
      separated = λ is. absurd (false≢true is);
    }

pub returns-in-Some-clause-some : goal.returns-in-Some-clause-some
unfolding meaning_of memory_layout_of
returns-in-Some-clause-some g c = c.in-Some.ensures.some

pub returns-in-None-clause-some : goal.returns-in-None-clause-some
unfolding meaning_of memory_layout_of
returns-in-None-clause-some g c = c.in-None.ensures.some

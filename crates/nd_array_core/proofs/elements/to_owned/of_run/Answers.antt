use Rattle.nd_array_core.proofs.NamesFromOtherCrates.{given_is_valid}
use Rattle.nd_array_core.proofs.reshape_lemmas.MemoryOrder.{run_holds, run_apart}
use Rattle.nd_array_core.proofs.elements.to_owned.of_run.Goals as goal

pub strided-requires : goal.strided-requires
strided-requires g c =
    let layout = c.args.layout.now in
    record { valid = rw c.requires.from (given_is_valid (g.D.Dimension.lengths layout.dim) (g.D.Strides.StrideList.strides_of layout.strides) layout.as_many layout.checked layout.spread) }

pub invariant_of-result : goal.invariant_of-result
invariant_of-result g c =
    let layout = c.args.layout.now in
    let ns = g.D.Dimension.lengths layout.dim in
    let ss = g.D.Strides.StrideList.strides_of layout.strides in
    record {
      inside = rw (c.strided.ensures.offset, c.strided.ensures.lengths, c.strided.ensures.strides, c.requires.from) (run_holds ns ss layout.as_many c.requires.run c.args.items.items c.requires.count);
      separated = rw (c.strided.ensures.lengths, c.strided.ensures.strides) (λ _ some. run_apart ns ss layout.as_many c.requires.run some);
    }

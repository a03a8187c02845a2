use Rattle.std.proofs.Common.{◌≡◌, ◌∙◌, true, false, length, reverse, sym, subst}
use Rattle.nd_layout.specs.RanksAndReshapeStrides.{IsStandard}
use Rattle.nd_array_core.specs.ArrayMeaning.{meaning_of, memory_layout_of, shape_of, layout_strides}
use Rattle.nd_array_core.proofs.reshape_lemmas.IndexesAfterReshape.{reversed_in_order, in_order_reversed}
use Rattle.nd_npy.proofs.writer.lies_in_fortran_order.Goals as goal

pub returns : goal.returns
unfolding meaning_of memory_layout_of
returns g c =
    let array = c.args.array.now in
    let ns = shape_of array in
    let ss = layout_strides array in
    let long : length ss ≡ length ns = array.layout.as_many in
    let part = c.t.ensures.part in
    let told = c.is_standard_layout-2.ensures in (
      λ yes. (λ standard. (let clash : true ≡ false = sym (c.is_standard_layout.ensures.1 standard) ∙ c.if-is_standard_layout.false in cc), reversed_in_order ns ss long (subst (λ ts. IsStandard (reverse ns) ts) part.1 (subst (λ ms. IsStandard ms (layout_strides c.t.result)) part.0 (told.0 yes)))),
      λ lies. told.1 (subst (λ ms. IsStandard ms (layout_strides c.t.result)) (sym part.0) (subst (λ ts. IsStandard (reverse ns) ts) (sym part.1) (in_order_reversed ns ss long lies.1))),
    )

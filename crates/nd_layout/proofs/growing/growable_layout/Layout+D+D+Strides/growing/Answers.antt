use Rattle.nd_layout.proofs.NamesFromOtherCrates.{◌∙◌, ap, sym, subst, arith, pos, w64, to_z_pos, ints}
use Rattle.nd_layout.specs.ValidLayoutsAndSteps.{IsValid}
use Rattle.nd_layout.proofs.growing_lemmas.FreshStorageAxisOrder.{others_there, others_checked, fresh_valid, fresh_apart, fresh_ready}
use Rattle.nd_layout.proofs.growing_lemmas.GrowingStrides.{laid_from}
use Rattle.nd_layout.proofs.growing.growable_layout.Layout+D+D+Strides.growing.Goals as goal

pub strides_in-strides-requires : goal.strides_in-strides-requires
strides_in-strides-requires g c = rw c.set_length.ensures (others_checked (g.D.Dimension.lengths c.args.dim) c.args.axis c.requires.axis c.requires.some c.requires.checked)

pub overflow_cast-size_of_others : goal.overflow_cast-size_of_others
overflow_cast-size_of_others g c = omega (arith, ints, c.size_of_others.ensures.small)

pub strided-requires : goal.strided-requires
strided-requires g c =
    let ns = g.D.Dimension.lengths c.args.dim in
    let others_stride = to_z_pos w64 c.size_of_others.result c.size_of_others.ensures.small ∙ ap pos c.size_of_others.ensures.value in
    let is = laid_from ns c.args.axis c.ndim.result _ _ _ _ _ c.requires.axis (others_there ns c.args.axis c.requires.axis c.requires.some) c.ndim.ensures.value c.growing_order.ensures c.set_length.ensures c.strides_in-strides.ensures others_stride c.set.ensures in
    record { valid = subst (IsValid 0 ns) (sym is) (fresh_valid ns c.args.axis c.requires.axis c.requires.some c.requires.checked) }

pub returns : goal.returns
returns g c =
    let ns = g.D.Dimension.lengths c.args.dim in
    let others_stride = to_z_pos w64 c.size_of_others.result c.size_of_others.ensures.small ∙ ap pos c.size_of_others.ensures.value in
    let is = laid_from ns c.args.axis c.ndim.result _ _ _ _ _ c.requires.axis (others_there ns c.args.axis c.requires.axis c.requires.some) c.ndim.ensures.value c.growing_order.ensures c.set_length.ensures c.strides_in-strides.ensures others_stride c.set.ensures in
    record {
      offset = c.strided.ensures.offset;
      lengths = c.strided.ensures.lengths;
      strides = c.strided.ensures.strides ∙ is;
      separated = fresh_apart ns c.args.axis c.requires.axis c.requires.some;
      ready = fresh_ready ns c.args.axis c.requires.axis c.requires.some;
    }

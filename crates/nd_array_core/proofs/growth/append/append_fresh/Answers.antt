use Rattle.nd_array_core.proofs.NamesFromOtherCrates.{◌∙◌, ap, sym, subst, length, size_of, lower_shape, upper_shape, IsFilledAfter, placement_of, as_placement, growing_strides, same_placement}
use Rattle.nd_array_core.specs.ArrayMeaning.{meaning_of}
use Rattle.nd_array_core.proofs.growth_lemmas.FreshStorage.{fresh_after, whole_upper, none_lower}
use Rattle.nd_array_core.proofs.growth.append.append_fresh.Goals as goal

pub put_after-requires-clause-alike : goal.put_after-requires-clause-alike
unfolding meaning_of
put_after-requires-clause-alike g c = sym (ap (λ s. upper_shape s c.args.axis 0) c.growing-fresh.ensures.lengths ∙ whole_upper (g.D.Dimension.lengths c.args.array.now.layout.dim) c.args.axis c.requires.on c.requires.more c.requires.checked)

pub put_after-requires-clause-filled : goal.put_after-requires-clause-filled
unfolding meaning_of
put_after-requires-clause-filled g c =
    let ms = g.D.Dimension.lengths c.args.array.now.layout.dim in
    let fresh = c.growing-fresh.ensures in
    subst (λ p. IsFilledAfter p c.args.axis 0) (sym (same_placement (placement_of c.growing-fresh.result) (as_placement 0 ms (growing_strides c.args.axis ms)) fresh.offset fresh.lengths fresh.strides)) (fresh_after ms c.args.axis c.requires.on c.requires.more c.requires.checked)

pub put_after-requires-clause-count : goal.put_after-requires-clause-count
unfolding meaning_of
put_after-requires-clause-count g c = ap length c.clear.ensures.items ∙ sym (ap (λ s. size_of (lower_shape s c.args.axis 0)) c.growing-fresh.ensures.lengths ∙ none_lower (g.D.Dimension.lengths c.args.array.now.layout.dim) c.args.axis c.requires.on c.requires.more c.requires.checked)

use Rattle.nd_array_core.proofs.NamesFromOtherCrates.{◌≡◌, ℕ, ◌+◌, ◌≤◌, ◌∙◌, arith, rules, subst, HasCheckedSize}
use Rattle.nd_array_core.proofs.growth_lemmas.ReservedLengths.{too_long, added_checked, added_count}
use Rattle.nd_array_core.proofs.growth.reserve.elements_of_lengths.Goals as goal

pub returns-in_default-clause-overflow : goal.returns-in_default-clause-overflow
returns-in_default-clause-overflow g c = too_long (g.D.Dimension.lengths c.args.dim) c.args.axis c.length.result c.args.additional c.requires c.length.ensures (c.in_default.ensures {u = tt})

within : (len n added : ℕ) → len ≡ n + added → added ≤ len
within len n added is = omega (arith, is)

pub size-requires : goal.size-requires
size-requires g c =
    added_checked (g.D.Dimension.lengths c.args.dim) (g.D.Dimension.lengths c.set_length.new.self) (g.D.Dimension.lengths c.set_length-2.new.self) c.args.axis c.in-Some.len c.args.additional
    c.requires (within c.in-Some.len c.length.result c.args.additional (search rules)) c.set_length.ensures c.set_length-2.ensures (subst HasCheckedSize c.slice.ensures.lengths c.in_ok-size_of_shape_checked.ensures.fits)

pub returns-clause-count : goal.returns-clause-count
returns-clause-count g c =
    c.size.ensures
    ∙ added_count (g.D.Dimension.lengths c.args.dim) (g.D.Dimension.lengths c.set_length.new.self) (g.D.Dimension.lengths c.set_length-2.new.self) c.args.axis c.in-Some.len c.args.additional
    c.requires c.set_length.ensures c.set_length-2.ensures

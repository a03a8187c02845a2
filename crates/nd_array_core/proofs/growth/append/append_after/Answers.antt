use Rattle.nd_array_core.proofs.NamesFromOtherCrates.{◌<◌, ◌∙◌, ap, sym, subst, size_of, lower_shape, upper_shape, placement_of}
use Rattle.nd_array_core.specs.ArrayMeaning.{meaning_of}
use Rattle.nd_array_core.proofs.growth_lemmas.AppendInFilledStorage.{fits_lower, fits_upper, fits_more, full_fills, cut_at}
use Rattle.nd_array_core.proofs.growth.append.append_after.Goals as goal

pub grown-grown-requires-clause-more : goal.grown-grown-requires-clause-more
unfolding meaning_of
grown-grown-requires-clause-more g c =
    subst (λ n. 0 < n) (sym c.length.ensures) (fits_more (g.D.Dimension.lengths c.args.layout.now.dim) (g.D.Dimension.lengths c.args.array.now.layout.dim) c.args.axis c.requires.comes.axis_exists c.requires.comes.other_axes_agree c.requires.more)

pub grown-grown-requires-clause-full : goal.grown-grown-requires-clause-full
grown-grown-requires-clause-full g c = full_fills (placement_of c.args.layout.now) c.args.storage.now.items.items c.requires.grows.holds c.requires.grows.own_places c.requires.grows.full

pub put_after-requires-clause-alike : goal.put_after-requires-clause-alike
unfolding meaning_of
put_after-requires-clause-alike g c =
    let ns = g.D.Dimension.lengths c.args.layout.now.dim in
    let ms = g.D.Dimension.lengths c.args.array.now.layout.dim in
    sym (cut_at (λ s n. upper_shape s c.args.axis n) ns (g.D.Dimension.lengths c.grown-grown.result.dim) ms c.args.axis c.length.result c.length-from.result c.grown-grown.ensures.lengths c.length.ensures c.length-from.ensures
    ∙ fits_upper ns ms c.args.axis c.requires.comes.axis_exists c.requires.comes.other_axes_agree)

pub put_after-requires-clause-count : goal.put_after-requires-clause-count
unfolding meaning_of
put_after-requires-clause-count g c =
    let ns = g.D.Dimension.lengths c.args.layout.now.dim in
    let ms = g.D.Dimension.lengths c.args.array.now.layout.dim in
    c.requires.grows.full ∙ ap size_of (sym (cut_at (λ s n. lower_shape s c.args.axis n) ns (g.D.Dimension.lengths c.grown-grown.result.dim) ms c.args.axis c.length.result c.length-from.result c.grown-grown.ensures.lengths c.length.ensures c.length-from.ensures
    ∙ fits_lower ns ms c.args.axis c.requires.comes.axis_exists c.requires.comes.other_axes_agree))

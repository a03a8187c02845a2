use Rattle.nd_array_core.proofs.NamesFromOtherCrates.{◌∙◌, ap, refl, set, sym, true≢false}
use Rattle.nd_array_core.specs.ArrayMeaning.{meaning_of}
use Rattle.nd_array_core.proofs.growth_lemmas.BroadcastAppends.{broadcasts_after, fits_on}
use Rattle.nd_array_core.proofs.growth.joined_shape.broadcast_after.Goals as goal

pub length-requires : goal.length-requires
unfolding meaning_of
length-requires g c = fits_on (g.D.Dimension.lengths c.args.dim.now) (g.D.Dimension.lengths c.args.array.layout.dim) c.args.axis c.requires.on c.requires.comes.0

pub unreachable-requires : goal.unreachable-requires
unfolding meaning_of
unreachable-requires g c =
    let ns = g.D.Dimension.lengths c.args.dim.now in
    let ms = g.D.Dimension.lengths c.args.array.layout.dim in
    true≢false (sym (broadcasts_after ns ms c.args.axis c.requires.on (g.D.Dimension.lengths c.set_length.new.self) (c.set_length.ensures ∙ ap (set ns c.args.axis) c.length.ensures) c.requires.comes) ∙ (c.in-None.ensures {u = tt}).none.0 refl)

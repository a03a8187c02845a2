use Rattle.nd_array_core.proofs.layout_lemmas.TakenAndLeftStorage.{steps_apart, halves_differ}
use Rattle.nd_array_core.proofs.layout.splits.halves.Goals as goal

pub returns-clause-apart : goal.returns-clause-apart
returns-clause-apart g c =
    let layout = c.args.layout.now in let lengths = g.D.Dimension.lengths in
    let parts = c.halves.ensures in
    steps_apart layout.offset (lengths layout.dim) (g.T.StrideList.strides_of layout.strides) layout.as_many c.requires.separated parts.lower parts.upper
    (λ i j h k. halves_differ (lengths layout.dim) c.args.axis c.args.index c.requires.on c.requires.within i j (rw (← parts.lower_lengths) h) (rw (← parts.upper_lengths) k))

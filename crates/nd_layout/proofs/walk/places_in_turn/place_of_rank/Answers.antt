use Rattle.nd_layout.proofs.NamesFromOtherCrates.{ap, ◌∙◌, in_box, in_box-index_at}
use Rattle.nd_layout.proofs.walk.places_in_turn.place_of_rank.Goals as goal

pub place_at-requires-clause-inside : goal.place_at-requires-clause-inside
place_at-requires-clause-inside c =
    let ns = c.args.lengths.now in
    ap (in_box ns) c.index_of_rank.ensures ∙ in_box-index_at ns c.args.rank c.requires.below

use Rattle.nd_array_core.proofs.NamesFromOtherCrates.{in_box-index_at}
use Rattle.nd_array_core.specs.ArrayMeaning.{meaning_of}
use Rattle.nd_array_core.proofs.along.lane_of_row_major_rank.ArrayBase+S+D.place_of_rank.Goals as goal

pub place_in_box-requires : goal.place_in_box-requires
unfolding meaning_of
place_in_box-requires g c =
    let ns = g.D.Dimension.lengths c.args.self.now.layout.dim in
    let index = rw c.slice.ensures.lengths at c.index_of_rank.ensures in
    rw index (in_box-index_at ns c.args.rank c.requires)

use Rattle.nd_elements.proofs.NamesFromOtherCrates.{◌≡◌, slice_get, vec_len}
use Rattle.nd_elements.specs.along.AxisLanes.{parallel_lanes}
use Rattle.nd_elements.specs.along.FoldOfLanes.{lanes_at}
use Rattle.nd_elements.proofs.along_lemmas.LanesFolding.{FoldedBelow}
use Rattle.nd_elements.proofs.along.fold_lanes_together.fold_parallel.Given as goal

abbrev pub invariant-loop-nth : goal.invariant-loop-nth
invariant-loop-nth g l =
    let at = parallel_lanes (vec_len l.fn.starts) l.fn.lane in
    (vec_len l.totals ≡ vec_len l.fn.starts)
    × FoldedBelow g.F.FnMut at.lanes at.count (lanes_at g.F.FnMut g.S.Data.stored at l.fn.storage) (slice_get l.fn.starts.items) l.fn.f l.nth (slice_get l.totals.items) l.now

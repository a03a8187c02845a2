use Rattle.std.proofs.Common.{◌≡◌, ◌<◌, ℕ, length, get_or, pos}
use Rattle.nd_layout.specs.RowMajorWalk.{place_at_rank}
use Rattle.tests_nd_layout.proofs.traversals_and_lanes.list_places.Given as goal

abbrev pub invariant-loop-rank : goal.invariant-loop-rank
invariant-loop-rank l =
    (l.walk.first.value ≡ l.fn.first) × (l.walk.lengths.now ≡ l.fn.lengths) × (l.walk.strides.now ≡ l.fn.strides) × (l.walk.rank ≡ l.rank)
    × (length l.out ≡ length l.fn.out)
    × ((r : ℕ) → r < l.rank → pos (get_or l.out r 0) ≡ place_at_rank l.fn.first l.fn.lengths l.fn.strides r)

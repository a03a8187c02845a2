use Rattle.nd_elements.proofs.NamesFromOtherCrates.{◌≡◌, ◌≤◌, ◌+◌, ◌-◌, ◌*◌, length, take, vec_len, vec_capacity, size_of, index_at, slowest_first}
use Rattle.nd_elements.specs.CallsInFreeOrder.{AnswersIndex}
use Rattle.nd_elements.proofs.ClosureResultsInOrder.{IsAnsweredTo}
use Rattle.nd_elements.proofs.base.from_shape_fn.answers_by_lanes.Given as goal

abbrev pub invariant-loop-index : goal.invariant-loop-index
invariant-loop-index g l =
    let ns = g.D.Dimension.lengths l.fn.dim in
    (l.outer.lengths.now ≡ take l.last (slowest_first l.fn.order ns))
    × (length (g.D.Dimension.lengths l.index) ≡ length ns)
    × (size_of ns ≤ vec_capacity l.items)
    × (vec_len l.items ≡ l.outer.rank * l.count)
    × IsAnsweredTo (AnswersIndex g.F.FnMut g.D.IntoPattern.pattern_lengths) (ns, l.fn.order) l.fn.f l.items.items (l.outer.rank * l.count) l.f

abbrev pub decreases-loop-index : goal.decreases-loop-index
decreases-loop-index g l = size_of l.outer.lengths.now - l.outer.rank

abbrev pub invariant-loop-k : goal.invariant-loop-k
invariant-loop-k g l =
    let ns = g.D.Dimension.lengths l.fn.dim in
    (length (g.D.Dimension.lengths l.index) ≡ length ns)
    × (take l.last (slowest_first l.fn.order (g.D.Dimension.lengths l.index)) ≡ index_at (take l.last (slowest_first l.fn.order ns)) l.outer.rank)
    × (size_of ns ≤ vec_capacity l.items)
    × (vec_len l.items ≡ l.outer.rank * l.count + l.k)
    × (l.k ≤ l.count)
    × IsAnsweredTo (AnswersIndex g.F.FnMut g.D.IntoPattern.pattern_lengths) (ns, l.fn.order) l.fn.f l.items.items (l.outer.rank * l.count + l.k) l.f

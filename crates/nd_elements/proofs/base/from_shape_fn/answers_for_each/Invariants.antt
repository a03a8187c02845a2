use Rattle.nd_elements.proofs.NamesFromOtherCrates.{◌≡◌, ◌≤◌, vec_len, vec_capacity, size_of}
use Rattle.nd_elements.specs.CallsInFreeOrder.{AnswersNothing}
use Rattle.nd_elements.proofs.ClosureResultsInOrder.{IsAnsweredTo}
use Rattle.nd_elements.proofs.base.from_shape_fn.answers_for_each.Given as goal

abbrev pub invariant-loop-rank : goal.invariant-loop-rank
invariant-loop-rank g l =
    (size_of (g.D.Dimension.lengths l.fn.dim) ≤ vec_capacity l.items)
    × (vec_len l.items ≡ l.rank)
    × IsAnsweredTo (AnswersNothing g.F.FnMut) (g.D.Dimension.lengths l.fn.dim, l.fn._order) l.fn.f l.items.items l.rank l.f

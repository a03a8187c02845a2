use Rattle.nd_array_core.proofs.NamesFromOtherCrates.{Some, Owned}
use Rattle.nd_array_core.specs.base.ArrayWrites.{KeepsFrame}
use Rattle.nd_array_core.specs.ArrayMeaning.{element_at}
use Rattle.nd_array_core.proofs.base_lemmas.DiagonalWrites.{IsDiagonalTo}
use Rattle.nd_array_core.proofs.base.square_matrices.Array+A+Ix2.from_diag_elem.Given as goal

abbrev pub invariant-loop-k : goal.invariant-loop-k
invariant-loop-k g l =
    KeepsFrame (λ s. Owned s.items.len s.items.cap) l.initial.matrix l.matrix
    × IsDiagonalTo l.fn.n (λ k. Some l.fn.elem) g.A.Zero.zero (element_at l.matrix) l.k

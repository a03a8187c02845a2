use Rattle.nd_array_core.proofs.NamesFromOtherCrates.{Owned}
use Rattle.nd_array_core.specs.base.ArrayWrites.{KeepsFrame}
use Rattle.nd_array_core.specs.ArrayMeaning.{element_at}
use Rattle.nd_array_core.specs.ElementsByCoordinates.{element_of_1}
use Rattle.nd_array_core.proofs.base_lemmas.DiagonalWrites.{IsDiagonalTo}
use Rattle.nd_array_core.proofs.base.square_matrices.Array+A+Ix2.from_diag.Given as goal

abbrev pub invariant-loop-k : goal.invariant-loop-k
invariant-loop-k g l =
    KeepsFrame (λ s. Owned s.items.len s.items.cap) l.initial.matrix l.matrix
    × IsDiagonalTo l.n (element_of_1 l.fn.diag) g.A.Zero.zero (element_at l.matrix) l.k

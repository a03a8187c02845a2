use Rattle.nd_array_core.proofs.NamesFromOtherCrates.{◌≡◌, ◌∙◌, [], ◌∷◌, refl, sym, ap, subst, le_antisymm, Some, slice_index, RowMajor, Owned}
use Rattle.nd_array_core.specs.ArrayMeaning.{shape_of, element_at}
use Rattle.nd_array_core.specs.ElementsByCoordinates.{element_of_1}
use Rattle.nd_array_core.specs.base.NewArrays.{ShowsOnDiagonal}
use Rattle.nd_array_core.specs.base.FromIteratorsAndClosures.{OwnsSquare}
use Rattle.nd_array_core.proofs.base_lemmas.WritesKeepOthers.{keeps_itself, keeps_again, owns_still}
use Rattle.nd_array_core.proofs.base_lemmas.DiagonalWrites.{diagonal_none, diagonal_more, on_diagonal_inside, diagonal_all}
use Rattle.nd_array_core.proofs.base.square_matrices.Array+A+Ix2.from_diag.Goals as goal

pub loop-k-init : goal.loop-k-init
loop-k-init g c = (
  keeps_itself (λ s. Owned s.items.len s.items.cap) c.in_ok-matrix.matrix,
  diagonal_none c.dim-n.result (element_of_1 c.args.diag.now) g.A.Zero.zero (element_at c.in_ok-matrix.matrix) c.in_ok-matrix.ensures.elements,
)

pub put_on_diagonal-requires : goal.put_on_diagonal-requires
put_on_diagonal-requires g c = on_diagonal_inside c.dim-n.result (element_of_1 c.args.diag.now) g.A.Zero.zero (shape_of c.loop-k.matrix) c.loop-k.k (c.loop-k.invariant.0.0 ∙ c.in_ok-matrix.ensures.owns.0) c.loop-k-test.true

pub loop-k-preserved : goal.loop-k-preserved
loop-k-preserved g c = (
  keeps_again (λ s. Owned s.items.len s.items.cap) c.in_ok-matrix.matrix c.loop-k.matrix c.put_on_diagonal.new.matrix c.put_on_diagonal.ensures.1 c.loop-k.invariant.0,
  diagonal_more c.dim-n.result (element_of_1 c.args.diag.now) g.A.Zero.zero (element_at c.loop-k.matrix) (element_at c.put_on_diagonal.new.matrix) c.loop-k.k _ c.loop-k-test.true (c.uget.ensures ∙ ap Some (sym (c.in_ok-cloned.ensures {u = tt}))) (λ i. c.put_on_diagonal.ensures.0 i) c.loop-k.invariant.1,
)

pub returns-clause-owns : goal.returns-clause-owns
returns-clause-owns g c =
    let count : c.dim-n.result ≡ slice_index (shape_of c.args.diag.now) 0 = ap (λ ns. slice_index ns 0) c.dim-n.ensures.lengths in
    subst (λ m. OwnsSquare m c.loop-k.matrix) count (owns_still (c.dim-n.result ∷ c.dim-n.result ∷ [], RowMajor) c.in_ok-matrix.matrix c.loop-k.matrix (rw count c.requires.checked) (λ s p. refl) c.in_ok-matrix.ensures.owns c.loop-k.invariant.0)

pub returns-clause-elements : goal.returns-clause-elements
returns-clause-elements g c =
    let count : c.dim-n.result ≡ slice_index (shape_of c.args.diag.now) 0 = ap (λ ns. slice_index ns 0) c.dim-n.ensures.lengths in
    subst (λ m. ShowsOnDiagonal m (element_of_1 c.args.diag.now) g.A.Zero.zero c.loop-k.matrix) count (diagonal_all c.dim-n.result (element_of_1 c.args.diag.now) g.A.Zero.zero (element_at c.loop-k.matrix) c.loop-k.k (le_antisymm c.loop-k.auto.k-end c.loop-k-test.false) c.loop-k.invariant.1)

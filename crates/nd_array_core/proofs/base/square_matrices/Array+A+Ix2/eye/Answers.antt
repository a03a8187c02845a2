use Rattle.nd_array_core.proofs.NamesFromOtherCrates.{◌∙◌, [], ◌∷◌, refl, sym, ap, le_antisymm, Some, RowMajor, Owned}
use Rattle.nd_array_core.specs.ArrayMeaning.{shape_of, element_at}
use Rattle.nd_array_core.proofs.base_lemmas.WritesKeepOthers.{keeps_itself, keeps_again, owns_still}
use Rattle.nd_array_core.proofs.base_lemmas.DiagonalWrites.{diagonal_none, diagonal_more, on_diagonal_inside, diagonal_all}
use Rattle.nd_array_core.proofs.base.square_matrices.Array+A+Ix2.eye.Goals as goal

pub loop-k-init : goal.loop-k-init
loop-k-init g c = (
  keeps_itself (λ s. Owned s.items.len s.items.cap) c.in_ok-eye.eye,
  diagonal_none c.args.n (λ k. Some g.A.One.one) g.A.Zero.zero (element_at c.in_ok-eye.eye) c.in_ok-eye.ensures.elements,
)

pub put_on_diagonal-requires : goal.put_on_diagonal-requires
put_on_diagonal-requires g c = on_diagonal_inside c.args.n (λ k. Some g.A.One.one) g.A.Zero.zero (shape_of c.loop-k.eye) c.loop-k.k (c.loop-k.invariant.0.0 ∙ c.in_ok-eye.ensures.owns.0) c.loop-k-test.true

pub loop-k-preserved : goal.loop-k-preserved
loop-k-preserved g c = (
  keeps_again (λ s. Owned s.items.len s.items.cap) c.in_ok-eye.eye c.loop-k.eye c.put_on_diagonal.new.matrix c.put_on_diagonal.ensures.1 c.loop-k.invariant.0,
  diagonal_more c.args.n (λ k. Some g.A.One.one) g.A.Zero.zero (element_at c.loop-k.eye) (element_at c.put_on_diagonal.new.matrix) c.loop-k.k _ c.loop-k-test.true (ap Some (sym c.one.ensures)) (λ i. c.put_on_diagonal.ensures.0 i) c.loop-k.invariant.1,
)

pub returns-clause-owns : goal.returns-clause-owns
returns-clause-owns g c = owns_still (c.args.n ∷ c.args.n ∷ [], RowMajor) c.in_ok-eye.eye c.loop-k.eye c.requires.checked (λ s p. refl) c.in_ok-eye.ensures.owns c.loop-k.invariant.0

pub returns-clause-elements : goal.returns-clause-elements
returns-clause-elements g c = diagonal_all c.args.n (λ k. Some g.A.One.one) g.A.Zero.zero (element_at c.loop-k.eye) c.loop-k.k (le_antisymm c.loop-k.auto.k-end c.loop-k-test.false) c.loop-k.invariant.1

use Rattle.nd_layout.proofs.NamesFromOtherCrates.{ap, inl, inr, ⊎_elim, eqb}
use Rattle.nd_layout.proofs.steps.SlicingOneAxis.{none_left, none_left_only}
use Rattle.nd_layout.proofs.layout.Layout.leaves_none.Goals as goal

pub returns-then-len-eq0 : goal.returns-then-len-eq0
returns-then-len-eq0 g c =
    (λ _. none_left (g.D.Dimension.lengths c.args.self.now.dim) c.args.axis c.args.len c.requires.on c.requires.shorter (inl c.if-len-eq0.true), λ _. ap (λ n. eqb n 0) c.if-len-eq0.true)

pub returns-else-len-eq0 : goal.returns-else-len-eq0
returns-else-len-eq0 g c = (
  λ yes. none_left (g.D.Dimension.lengths c.args.self.now.dim) c.args.axis c.args.len c.requires.on c.requires.shorter (inr ((rw c.slice.ensures.lengths at c.is_empty_shape.ensures).0 yes)),
  λ none. ⊎_elim (λ e. absurd (c.if-len-eq0.false e)) (λ e. (rw c.slice.ensures.lengths at c.is_empty_shape.ensures).1 e) (none_left_only (g.D.Dimension.lengths c.args.self.now.dim) c.args.axis c.args.len c.requires.on none),
)

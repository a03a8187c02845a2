use Rattle.nd_array_core.proofs.NamesFromOtherCrates.{◌∙◌, sym, subst, true≢false}
use Rattle.nd_array_core.specs.growth.Append.{IsJoiningRefused, NotFitting}
use Rattle.nd_array_core.proofs.growth.joined_shape.joined_dim.Goals as goal

pub returns-else-fits_after-clause-refused : goal.returns-else-fits_after-clause-refused
returns-else-fits_after-clause-refused g c =
    subst (IsJoiningRefused (g.D.Dimension.lengths c.args.dim.now) (g.D.Dimension.lengths c.args.added.now) c.args.axis) (sym c.from_kind.ensures)
    (NotFitting (λ fits. true≢false (sym (c.fits_after.ensures.1 (rw (c.slice.ensures.lengths, c.slice-2.ensures.lengths) fits)) ∙ c.if-fits_after.false)))

use mathlib.Core.Path.{◌∙◌, sym, ap, subst}
use Rattle.std.specs.Prelude.{◌≡◌, Some, true}
use Rattle.std.specs.Option.{is_some}
use native.Mathlib.Omega.{arith}
use Rattle.nd_region.specs.SharedRegion.{shared_stored}
use Rattle.nd_region.proofs.SliceElementsByPlace.{whole_bound}
use Rattle.nd_region.proofs.RegionContentsForCallers.{whole_stored}
use Rattle.nd_region.proofs.shared_borrow.SharedRegion.get.Goals as goal

-- src/shared_borrow.rt:32:43
pub bounds-slice-place : goal.bounds-slice-place
bounds-slice-place g c = whole_bound c.in-Whole.slice.now c.args.place (subst (λ r. is_some (shared_stored r c.args.place) ≡ true) c.in-Whole.is c.requires)

-- src/shared_borrow.rt:32:43
pub offset_bounds-slice-place : goal.offset_bounds-slice-place
offset_bounds-slice-place g c = omega (arith, bounds-slice-place g c)

-- src/shared_borrow.rt:26:5
pub returns-in-Whole : goal.returns-in-Whole
returns-in-Whole g c = ap (λ r. shared_stored r c.args.place) c.in-Whole.is
    ∙ whole_stored c.in-Whole.slice.now c.args.place c.index-slice-place.result (whole_bound c.in-Whole.slice.now c.args.place (subst (λ r. is_some (shared_stored r c.args.place) ≡ true) c.in-Whole.is c.requires))
    ∙ ap (λ x. Some x) (sym c.index-slice-place.is)

use mathlib.Core.Path.{sym, subst}
use Rattle.nd_region.specs.SharedRegion.{HasSharedRun, IsSharedRunOf}
use Rattle.nd_region.proofs.SliceElementsByPlace.{run_bound, run_shown}
use Rattle.nd_region.proofs.shared_borrow.SharedRegion.run.Goals as goal

-- src/shared_borrow.rt:42:43
pub run-requires : goal.run-requires
run-requires g c = subst (λ r. HasSharedRun r c.args.place c.args.count) c.in-Part.is c.requires

-- src/shared_borrow.rt:43:43
pub slice_run-requires : goal.slice_run-requires
slice_run-requires g c = λ some. run_bound c.in-Whole.slice.now c.args.place c.args.count some (subst (λ r. HasSharedRun r c.args.place c.args.count) c.in-Whole.is c.requires)

-- src/shared_borrow.rt:37:5
pub returns-in-Whole : goal.returns-in-Whole
returns-in-Whole g c = subst (λ r. IsSharedRunOf r c.args.place c.args.count c.slice_run.result.now) (sym c.in-Whole.is)
    (run_shown c.in-Whole.slice.now c.slice_run.result.now c.args.place c.args.count (subst (λ r. HasSharedRun r c.args.place c.args.count) c.in-Whole.is c.requires) c.slice_run.ensures)

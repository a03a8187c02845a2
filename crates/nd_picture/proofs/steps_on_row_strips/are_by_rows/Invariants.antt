use Rattle.std.proofs.Common.{◌≡◌, drop}
use Rattle.nd_picture.specs.RowwiseSteps.{are_by_rows}
use Rattle.nd_picture.proofs.steps_on_row_strips.are_by_rows.Given as goal

-- whether those that are left do so tells whether all do
abbrev pub invariant-loop-nth : goal.invariant-loop-nth
invariant-loop-nth l = are_by_rows (drop l.nth l.steps) ≡ are_by_rows l.fn.steps

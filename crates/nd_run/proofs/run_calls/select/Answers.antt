use Rattle.std.proofs.Common.{◌≡◌, ◌<◌, ap, arith, not, None}
use Rattle.std.proofs.lemmas.Bool.{ne_eqb}
use Rattle.nd_shape_and_slice.specs.ShapesAndIndexOrders.{size_of}
use Rattle.nd_array_core.specs.ArrayMeaning.{shape_of}
use Rattle.nd_array_core.specs.along.SelectedCoordinates.{selected_shape}
use Rattle.nd_steps.specs.StepTestsAndShapes.{first_failed}
use Rattle.nd_run.specs.OutcomesOfCalls.{select_tests}
use Rattle.nd_run.proofs.run_calls.select.Goals as goal

pub returns-in-Err-select : goal.returns-in-Err-select
returns-in-Err-select g c =
    let axis = c.args.axis in
    let ns = shape_of c.args.array.now in
    let tests : first_failed (select_tests axis c.args.indexes.now ns) ≡ None = c.in-Ok.ensures {u = tt} in
    let some : 0 < size_of (selected_shape ns axis c.args.indexes.now) = (c.in-Err-select.ensures {u = tt}).refused in
    (tests, ap not (ne_eqb (size_of (selected_shape ns axis c.args.indexes.now)) 0 (λ none. omega (arith, some, none))))

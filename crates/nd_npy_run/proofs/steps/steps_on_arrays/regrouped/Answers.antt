use Rattle.std.proofs.Common.{◌≡◌, ◌∙◌, ℕ, List, ap, subst, inl, inr}
use Rattle.nd_shape_and_slice.specs.declared.shape_builder.Order.TheVariants.{RowMajor}
use Rattle.nd_array_core.specs.ArrayMeaning.{meaning_of, layout_strides}
use Rattle.nd_array_core.specs.reshape.EitherArray.{IsReshapeRefused}
use Rattle.nd_array_core.specs.reshape.ServingStrides.{regrouped_meaning}
use Rattle.nd_steps.proofs.StepEquations.{same_meaning}
use Rattle.nd_npy_run.specs.ViewSelectAndReshapeSteps.{Regrouped}
use Rattle.nd_npy_run.proofs.OutOfMemoryInReshape.{copies_some}
use Rattle.nd_npy_run.proofs.SingleStepResults.{step_err, step_ok, step_made, lengths_fit}
use Rattle.nd_npy_run.proofs.steps.steps_on_arrays.regrouped.Goals as goal

pub returns-in-Ok-into_shape_clone : goal.returns-in-Ok-into_shape_clone
returns-in-Ok-into_shape_clone g c =
    let m = meaning_of c.args.array in
    let new = meaning_of c.in-Ok-into_shape_clone.regrouped in
    let asked = ap (λ (to : List ℕ). regrouped_meaning RowMajor to m) c.in-Ok.ensures.lengths in
    let is : new ≡ regrouped_meaning RowMajor c.args.lengths.now m = elim c.in-Ok-into_shape_clone.ensures.kind [
      | inl kept ↦ same_meaning _ new kept.1.0.0 kept.1.0.2 ∙ asked
      | inr copied ↦ same_meaning _ new copied.2.0 copied.2.1 ∙ asked
    ] in
    step_ok (Regrouped c.args.lengths.now) m new c.in-Ok.ensures.refused is

pub returns-in-Err-into_shape_clone : goal.returns-in-Err-into_shape_clone
returns-in-Err-into_shape_clone g c =
    let m = meaning_of c.args.array in
    let to = c.args.lengths.now in
    let refused = subst (λ (ms : List ℕ). IsReshapeRefused RowMajor m.shape (layout_strides c.args.array) ms c.in-Err-into_shape_clone.field-0) c.in-Ok.ensures.lengths c.in-Err-into_shape_clone.ensures.refused in
    step_made (Regrouped to) m c.in-Ok.ensures.refused (copies_some RowMajor m.shape (layout_strides c.args.array) to c.in-Err-into_shape_clone.field-0 refused (lengths_fit to m.shape c.in-Ok.ensures.refused))

pub returns-in-Err : goal.returns-in-Err
returns-in-Err g c = step_err (Regrouped c.args.lengths.now) (meaning_of c.args.array) c.args.number c.in-Err.cause c.in-Err.ensures.refused

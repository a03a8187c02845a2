use Rattle.std.proofs.Common.{◌≡◌, None, subst}
use Rattle.nd_array_core.specs.ArrayMeaning.{shape_of}
use Rattle.nd_read.specs.ScriptCalls.{Sliced, asked_step}
use Rattle.nd_steps.specs.StepTestsAndShapes.{keep_refusal, refusal}
use Rattle.nd_steps.proofs.StepChecks.{list_fits}
use Rattle.nd_steps.proofs.checked_view_calls.stepped.Goals as goal

pub slice_move-requires : goal.slice_move-requires
slice_move-requires g c =
    let allowed : refusal (Sliced c.in-Slice.elements.items) (shape_of c.args.array) ≡ None = subst (λ s. keep_refusal (asked_step s) (shape_of c.args.array) ≡ None) c.in-Slice.is c.requires in
    rw c.as_slice.ensures.value (list_fits (shape_of c.args.array) c.in-Slice.elements.items allowed)

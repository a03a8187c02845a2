use Rattle.std.proofs.Common.{◌≡◌, ◌<◌, List, ℕ, Bool, true, false, arith, cond, length, None, Some, refl, rules, subst}
use Rattle.nd_array_core.specs.ArrayMeaning.{shape_of}
use Rattle.nd_array_core.specs.growth.Append.{FitsAfter}
use Rattle.nd_steps.specs.declared.refusal_causes.Cause.{Cause}
use Rattle.nd_steps.specs.declared.refusal_causes.Cause.TheVariants as causes
use Rattle.nd_run.proofs.run_calls.check_append.Goals as goal

held : (t : Bool) (cause : Cause) → cond t None (Some cause) ≡ None → t ≡ true
held true cause e = refl
held false cause e = absurd cc

pub len_of-requires-2 : goal.len_of-requires-2
len_of-requires-2 g c =
    let ns = shape_of c.args.array.now in
    let ms = shape_of c.args.other.now in
    let on : c.args.axis < length ns = search rules in
    let fits = c.fits_after.ensures.0 (held c.fits_after.result causes.Shape c.in_ok-check-3.ensures) in
    let as_many = c.shapes_after.ensures.axes ns ms c.args.axis (subst (λ (p : List ℕ × List ℕ). FitsAfter p.0 p.1 c.args.axis) (λ i. (c.shape.ensures.value i, c.shape-2.ensures.value i)) fits) in
    omega (arith, as_many, on)

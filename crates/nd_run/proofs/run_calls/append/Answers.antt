use Rattle.std.proofs.Common.{◌≡◌, ◌<◌, ◌^◌, ap, arith, not, ℕ, Bool, true, false, cond, List, length, Option, None, Some, refl, subst}
use Rattle.std.specs.Prelude.{nat_lt}
use Rattle.std.proofs.lemmas.Bool.{ltb-true, ne_eqb}
use Rattle.nd_shape_and_slice.specs.ShapesAndIndexOrders.{nonzero_product, HasCheckedSize}
use Rattle.nd_shape_and_slice.specs.Broadcast.{stretches}
use Rattle.nd_shape_and_slice.specs.declared.errors.ErrorKind.{ErrorKind}
use Rattle.nd_array_core.specs.ConcatenationAndSplit.{concatenated_shape, appended_shape}
use Rattle.nd_array_core.specs.ArrayMeaning.{shape_of}
use Rattle.nd_array_core.specs.growth.Append.{elements_after, CanComeAfter, FitsAfter, IsJoiningRefused, NotFitting, TooLarge, IsAppendRefused}
use Rattle.nd_steps.specs.declared.refusal_causes.Cause.{Cause}
use Rattle.nd_steps.specs.declared.refusal_causes.Cause.TheVariants as causes
use Rattle.nd_steps.specs.StepTestsAndShapes.{first_failed}
use Rattle.nd_run.specs.OutcomesOfCalls.{append_tests}
use Rattle.nd_run.proofs.run_calls.append.Goals as goal
use Rattle.nd_steps.proofs.StepChecks.{all_passed}

-- where no test fails the array fits, and the size of both is one
fits : (axis : ℕ) (ms ns : List ℕ) → first_failed (append_tests axis ms ns) ≡ None → CanComeAfter ns ms axis
fits axis ms ns e =
    let axes = all_passed (nat_lt 0 (length ns)) causes.Shape _ e in
    let on = all_passed (nat_lt axis (length ns)) causes.Axis _ axes.1 in
    let alike = all_passed (stretches ms (appended_shape ns ms axis)) causes.Shape _ on.1 in
    let size = all_passed (nat_lt (nonzero_product (concatenated_shape ns ms axis)) (2 ^ 63)) causes.Overflow None alike.1 in
    ((ltb-true 0 (length ns) axes.0, alike.0), ltb-true (nonzero_product (concatenated_shape ns ms axis)) (2 ^ 63) size.0)

not_refused : (ns ms : List ℕ) (axis : ℕ) (kind : ErrorKind) → FitsAfter ns ms axis → HasCheckedSize (concatenated_shape ns ms axis) → IsJoiningRefused ns ms axis kind → ⊥
not_refused ns ms axis kind fit size (NotFitting unfit) = unfit fit
not_refused ns ms axis kind fit size (TooLarge _ too_large) = too_large size

pub unreachable-requires : goal.unreachable-requires
unreachable-requires g c =
    let ns = shape_of c.args.array.now in
    let ms = shape_of c.args.other in
    let fit = fits c.args.axis ms ns (c.in-Ok.ensures {u = tt}) in
    not_refused ns ms c.args.axis c.in-Err-Shape.field-0-0 fit.0 fit.1 (subst (IsAppendRefused ns ms c.args.axis) c.in-Err-Shape.field-0-is (c.in-Err-Shape.ensures {u = tt}).refused)

pub returns-in-Err-NoMemory : goal.returns-in-Err-NoMemory
returns-in-Err-NoMemory g c =
    let axis = c.args.axis in
    let ns = shape_of c.args.array.now in
    let ms = shape_of c.args.other in
    let tests : first_failed (append_tests axis ms ns) ≡ None = c.in-Ok.ensures {u = tt} in
    let fit = fits axis ms ns tests in
    let lacks = subst (IsAppendRefused ns ms axis) c.in-Err-NoMemory.field-0-is (c.in-Err-NoMemory.ensures {u = tt}).refused in
    let some : 0 < elements_after ns ms axis = lacks.1 in
    (tests, ap not (ne_eqb (elements_after ns ms axis) 0 (λ none. omega (arith, some, none))))

use Rattle.std.proofs.Common.{◌≡◌, ◌∙◌, ℕ, ◌+◌, ◌<◌, Bool, true, false, List, ◌∷◌, length, length-append, take, drop, Some, refl, ap, subst, sym, arith}
use Rattle.std.specs.List.{insert}
use Rattle.std.proofs.lemmas.Bool.{lt-ltb}
use Rattle.std.proofs.lemmas.List.{take-append-drop}
use Rattle.nd_shape_and_slice.specs.Broadcast.{stretches}
use Rattle.nd_array_core.specs.ConcatenationAndSplit.{appended_shape}
use Rattle.nd_array_core.specs.growth.Append.{FitsAfter}
use Rattle.nd_array_core.specs.LayoutLaws.{with_axis_inserted}
use Rattle.nd_array_core.specs.ArrayMeaning.{meaning_of}
use Rattle.nd_steps.specs.declared.refusal_causes.Cause.TheVariants as causes
use Rattle.nd_read.specs.ScriptCalls.{Appending}
use Rattle.nd_run.specs.CallReplies.{SaidRefused}
use Rattle.nd_steps.specs.StepTestsAndShapes.{first_failed}
use Rattle.nd_run.specs.OutcomesOfCalls.{append_tests, IsCarriedOutOrLacks}
use Rattle.nd_run.proofs.ReplyAndArrayOfOneCall.{carried}
use Rattle.nd_steps.proofs.StepEquations.{same_meaning}
use Rattle.nd_run.proofs.run_calls.push.Goals as goal

-- what fits after a shape has as many axes
abbrev AsManyAxes : Type 0
AsManyAxes = (ns ms : List ℕ) (axis : ℕ) → FitsAfter ns ms axis → length ms ≡ length ns

-- a shape of another number of axes stretches to none
other_axes : AsManyAxes → (axis : ℕ) (ms ns : List ℕ) → 0 < length ns → (length ms + 1 ≡ length ns → ⊥) → stretches (insert ms axis 1) (appended_shape ns (insert ms axis 1) axis) ≡ false
other_axes as_many axis ms ns some apart = by_test (stretches (insert ms axis 1) (appended_shape ns (insert ms axis 1) axis)) refl
  where
    by_test : (t : Bool) → stretches (insert ms axis 1) (appended_shape ns (insert ms axis 1) axis) ≡ t → t ≡ false
    by_test false e = refl
    by_test true e =
        let same = as_many ns (insert ms axis 1) axis (some, e) in
        absurd (apart (omega (arith, same, length-append (take axis ms) (1 ∷ drop axis ms), length-append (take axis ms) (drop axis ms), ap length (take-append-drop axis ms))))

unfit : AsManyAxes → (axis : ℕ) (ms ns : List ℕ) → 0 < length ns → axis < length ns → (length ms + 1 ≡ length ns → ⊥) → first_failed (append_tests axis (insert ms axis 1) ns) ≡ Some causes.Shape
unfit as_many axis ms ns some on apart = rw (lt-ltb 0 (length ns) some, lt-ltb axis (length ns) on, other_axes as_many axis ms ns some apart) refl

pub returns : goal.returns
returns g c =
    let axis = c.args.axis in
    let m = meaning_of c.args.other.now in
    let seen : meaning_of c.view.result ≡ m = same_meaning m (meaning_of c.view.result) c.view.ensures.whole.0 c.view.ensures.whole.2 in
    let is : meaning_of c.insert_axis.result ≡ with_axis_inserted axis m =
    same_meaning (with_axis_inserted axis (meaning_of c.view.result)) (meaning_of c.insert_axis.result) c.insert_axis.ensures.part.0.0 c.insert_axis.ensures.part.0.2 ∙ ap (with_axis_inserted axis) seen in
    subst (λ n. IsCarriedOutOrLacks g.A.PartialEq.eq (Appending axis n) (meaning_of c.args.array.now) (meaning_of c.append.new.array) c.append.result) is c.append.ensures

pub returns-then-ndim : goal.returns-then-ndim
returns-then-ndim g c =
    let axis = c.args.axis in
    let m = meaning_of c.args.array.now in
    let n = meaning_of c.args.other.now in
    let some : 0 < length m.shape = let all = c.ndim.ensures.value in omega (arith, c.if-ndim-eq0.false, all) in
    let on : axis < length m.shape = let all = c.ndim-2.ensures.value in omega (arith, c.if-axis-ndim.false, all) in
    let apart : length n.shape + 1 ≡ length m.shape → ⊥ = λ e. c.if-ndim.true (let few = c.ndim-3.ensures.value in let all = c.ndim-4.ensures.value in omega (arith, e, few, all)) in
    ap (λ k. (SaidRefused k, m)) c.number-then-ndim.ensures
    ∙ carried g.A.PartialEq.eq (Appending axis (with_axis_inserted axis n)) m (Some causes.Shape) m (sym (unfit c.shapes_after.ensures.axes axis n.shape m.shape some on apart)) refl refl

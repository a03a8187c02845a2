-- The tests of steps, and those of a list of slices element by element.
use Rattle.std.proofs.Common.{◌≡◌, ℕ, ◌+◌, ◌<◌, ◌≤◌, Bool, true, false, cond, not, eqb, leb, List, [], ◌∷◌, length, drop, get_or, Option, Some, None, refl, sym, ap, ◌∙◌, add-one, drop-cons, arith}
use Rattle.std.specs.Prelude.{is_some, if◌then◌else◌}
use Rattle.std.proofs.lemmas.Bool.{eqb-true, le-leb}
use Rattle.std.proofs.lemmas.List.{drop_all}
use Rattle.std.proofs.lemmas.List.Sums.{sum_by-cons}
use Rattle.nd_shape_and_slice.specs.declared.slice_info.SliceInfoElem.{SliceInfoElem}
use Rattle.nd_shape_and_slice.specs.declared.slice_info.SliceInfoElem.TheVariants.{Slice as Part, Index as At, NewAxis}
use Rattle.nd_shape_and_slice.specs.Slice.{fits_axis}
use Rattle.nd_shape_and_slice.specs.SliceInfo.{reads_axis, axes_read, axes_kept, coordinate_on, each_fits, fits_shape}
use Rattle.nd_steps.specs.declared.refusal_causes.Cause.{Cause}
use Rattle.nd_steps.specs.declared.refusal_causes.Cause.TheVariants as causes
use Rattle.nd_shape_and_slice.specs.Broadcast.{broadcasts}
use Rattle.nd_read.specs.ScriptCalls.{AskedStep, Sliced, BroadcastTo}
use Rattle.nd_shape_and_slice.specs.SlicingInTwoPasses.{next_axis}
use Rattle.nd_shape_and_slice.proofs.SliceLists.{next_axis-reads}
use Rattle.nd_shape_and_slice.proofs.ListEdits.{drop-next}
use Rattle.nd_steps.specs.StepTestsAndShapes.{first_failed, element_tests, refusal, keep_refusal, shares}

-- ---- one test before others

passed : (t : Bool) (cause : Cause) (later : Option Cause) → cond t None (Some cause) ≡ None → cond t later (Some cause) ≡ later
passed true cause later e = refl
passed false cause later e = absurd cc

failed : (t : Bool) (cause given : Cause) (later : Option Cause) → cond t None (Some cause) ≡ Some given → cond t later (Some cause) ≡ Some given
failed true cause given later e = absurd cc
failed false cause given later e = e

pub all_passed : (t : Bool) (cause : Cause) (later : Option Cause) → cond t later (Some cause) ≡ None → (t ≡ true) × (later ≡ None)
all_passed true cause later e = (refl, e)
all_passed false cause later e = absurd cc

-- a step that may be kept may be looked at
pub keep_allows : (step : AskedStep) (ns : List ℕ) → keep_refusal step ns ≡ None → refusal step ns ≡ None
keep_allows step ns h = (all_passed (not (shares step)) causes.Broadcast (refusal step ns) h).1

unrefused : (t : Bool) (cause : Cause) → (t ≡ false → ⊥) → cond t None (Some cause) ≡ None
unrefused true cause h = refl
unrefused false cause h = absurd (h refl)

pub broadcast_allowed : (to ns : List ℕ) → length to ≤ 32 → (broadcasts ns to ≡ false → ⊥) → refusal (BroadcastTo to) ns ≡ None
broadcast_allowed to ns few can = rw (le-leb (length to) 32 few) (unrefused (broadcasts ns to) causes.Broadcast can)

-- ---- one element before others
-- how many axes an element reads
abbrev pub reads : SliceInfoElem → ℕ
reads e = if reads_axis e then 1 else 0

element_passed : (axis : ℕ) (ns : List ℕ) (e : SliceInfoElem) (es : List SliceInfoElem) → first_failed (element_tests axis ns (e ∷ [])) ≡ None → first_failed (element_tests axis ns (e ∷ es)) ≡ first_failed (element_tests (axis + reads e) ns es)
element_passed axis ns (Part start end step) es h = passed (fits_axis (get_or ns axis 0) (record { start = start; end = end; step = step })) causes.Slice (first_failed (element_tests (axis + 1) ns es)) h
element_passed axis ns (At k) es h = passed (is_some (coordinate_on (get_or ns axis 0) k)) causes.Index (first_failed (element_tests (axis + 1) ns es)) h
element_passed axis ns NewAxis es h = let same : axis ≡ axis + 0 = omega arith in ap (λ a. first_failed (element_tests a ns es)) same

axes_read-cons : (e : SliceInfoElem) (es : List SliceInfoElem) → axes_read (e ∷ es) ≡ reads e + axes_read es
axes_read-cons e es = sum_by-cons (λ x. cond (reads_axis x) 1 0) e es

-- ---- the elements from the k-th on read the axes from this one on

pub record IsTestedBelow (shape : List ℕ) (elements : List SliceInfoElem) (axis k : ℕ) : Type 0 where
  pub left : axis + axes_read (drop k elements) ≡ length shape
  pub same : first_failed (element_tests axis shape (drop k elements)) ≡ first_failed (element_tests 0 shape elements)

next_element : (es : List SliceInfoElem) (k : ℕ) (e : SliceInfoElem) → k < length es → get_or es k e ≡ e → drop k es ≡ e ∷ drop (k + 1) es
next_element es k e lt at = rw add-one (drop-cons es k e lt) ∙ ap (λ x. x ∷ drop (k + 1) es) at

next_read : (es : List SliceInfoElem) (k : ℕ) (e : SliceInfoElem) → k < length es → get_or es k e ≡ e → axes_read (drop k es) ≡ reads e + axes_read (drop (k + 1) es)
next_read es k e lt at = ap axes_read (next_element es k e lt at) ∙ axes_read-cons e (drop (k + 1) es)

pub tested_more : (shape : List ℕ) (es : List SliceInfoElem) (axis k next : ℕ) (e : SliceInfoElem) → k < length es → get_or es k e ≡ e → IsTestedBelow shape es axis k → first_failed (element_tests axis shape (e ∷ [])) ≡ None → next ≡ next_axis axis e → IsTestedBelow shape es next (k + 1)
tested_more shape es axis k next e lt at h fits is =
    let moved : next ≡ axis + reads e = is ∙ next_axis-reads axis e in
    record {
      left = omega (arith, h.left, next_read es k e lt at, moved);
      same = ap (λ a. first_failed (element_tests a shape (drop (k + 1) es))) moved ∙ (sym (element_passed axis shape e (drop (k + 1) es) fits) ∙ (ap (λ l. first_failed (element_tests axis shape l)) (sym (next_element es k e lt at)) ∙ h.same));
    }

-- ---- a list that nothing is against fits

new_fits : (ns : List ℕ) (es : List SliceInfoElem) → each_fits ns (NewAxis ∷ es) ≡ each_fits ns es
new_fits [] es = refl
new_fits (n ∷ ns) es = refl

each_tested : (es : List SliceInfoElem) (a : ℕ) (ns : List ℕ) → a + axes_read es ≡ length ns → first_failed (element_tests a ns es) ≡ None → each_fits (drop a ns) es ≡ true
each_tested [] a ns e h = let end : length ns ≤ a = omega (arith, e) in rw (drop_all a ns end) refl
each_tested (Part start end step ∷ es) a ns e h =
    let more : axes_read (Part start end step ∷ es) ≡ 1 + axes_read es = axes_read-cons (Part start end step) es in
    let p = all_passed (fits_axis (get_or ns a 0) (record { start = start; end = end; step = step })) causes.Slice (first_failed (element_tests (a + 1) ns es)) h in
    rw (drop-next ns a 0 (omega (arith, e, more)), p.0) (each_tested es (a + 1) ns (omega (arith, e, more)) p.1)
each_tested (At k ∷ es) a ns e h =
    let more : axes_read (At k ∷ es) ≡ 1 + axes_read es = axes_read-cons (At k) es in
    let p = all_passed (is_some (coordinate_on (get_or ns a 0) k)) causes.Index (first_failed (element_tests (a + 1) ns es)) h in
    rw (drop-next ns a 0 (omega (arith, e, more)), p.0) (each_tested es (a + 1) ns (omega (arith, e, more)) p.1)
each_tested (NewAxis ∷ es) a ns e h =
    let same : axes_read (NewAxis ∷ es) ≡ 0 + axes_read es = axes_read-cons NewAxis es in
    new_fits (drop a ns) es ∙ each_tested es a ns (omega (arith, e, same)) h

pub list_fits : (ns : List ℕ) (es : List SliceInfoElem) → refusal (Sliced es) ns ≡ None → fits_shape ns es ≡ true
list_fits ns es h =
    let p = all_passed (eqb (axes_read es) (length ns)) causes.Shape (cond (leb (axes_kept es) 32) (first_failed (element_tests 0 ns es)) (Some causes.TooManyAxes)) h in
    let q = all_passed (leb (axes_kept es) 32) causes.TooManyAxes (first_failed (element_tests 0 ns es)) p.1 in
    let count : 0 + axes_read es ≡ length ns = omega (arith, eqb-true (axes_read es) (length ns) p.0) in
    rw (each_tested es 0 ns count q.1, q.0) refl

-- Tests one after another, and steps and paths as equations of meanings.
use Rattle.std.proofs.Common.{◌≡◌, ℕ, Bool, true, false, List, refl, ap, sym, ◌∙◌, cond, [], ◌∷◌, ◌++◌, Ok, Err, Option, Some, None}
use Rattle.std.specs.Prelude.{is_some}
use Rattle.nd_shape_and_slice.specs.ShapesAndIndexOrders.{in_box}
use Rattle.nd_array_core.specs.LayoutLaws.{NothingOutside}
use Rattle.std.proofs.Math.Path.{fun_ext}
use Rattle.nd_array_core.specs.ArrayMeaning.{Meaning, meaning_through, inside}
use Rattle.nd_steps.specs.declared.refusal_causes.Cause.{Cause}
use Rattle.nd_read.specs.ScriptCalls.{AskedStep}
use Rattle.nd_steps.specs.StepTestsAndShapes.{Test, first_failed, refusal, step_shape, step_index, shape_along, index_along}
use Rattle.nd_steps.specs.WritesThroughViewsAndSplits.{meaning_at_end}
use Rattle.nd_steps.specs.WriteResults.{unless_refused}
use Rattle.nd_steps.specs.StepListResults.{LeadsAlong, step_result}

-- ---- tests before others

pub tests_pass : (xs ys : List Test) → first_failed xs ≡ None → first_failed (xs ++ ys) ≡ first_failed ys
tests_pass [] ys h = refl
tests_pass (x ∷ xs) ys h = by_test x.0 h (tests_pass xs ys)
  where
    by_test : (t : Bool) → cond t (first_failed xs) (Some x.1) ≡ None → (first_failed xs ≡ None → first_failed (xs ++ ys) ≡ first_failed ys) → cond t (first_failed (xs ++ ys)) (Some x.1) ≡ first_failed ys
    by_test true e rest = rest e
    by_test false e rest = absurd cc

pub tests_fail : (xs ys : List Test) (cause : Cause) → first_failed xs ≡ Some cause → first_failed (xs ++ ys) ≡ Some cause
tests_fail [] ys cause h = absurd cc
tests_fail (x ∷ xs) ys cause h = by_test x.0 h (tests_fail xs ys cause)
  where
    by_test : (t : Bool) → cond t (first_failed xs) (Some x.1) ≡ Some cause → (first_failed xs ≡ Some cause → first_failed (xs ++ ys) ≡ Some cause) → cond t (first_failed (xs ++ ys)) (Some x.1) ≡ Some cause
    by_test true e rest = rest e
    by_test false e rest = e

-- the first cause of tests that fail is that of all tests
pub tests_stop : (xs ys : List Test) (r : Option Cause) → is_some r ≡ true → r ≡ first_failed xs → r ≡ first_failed (xs ++ ys)
tests_stop xs ys None some e = absurd cc
tests_stop xs ys (Some cause) some e = sym (tests_fail xs ys cause (sym e))

module _ {A : Type 0} where
  -- what a view's clauses say of it, as one equation
  pub seen_is : (old new : Meaning A) (shape : List ℕ) (source : List ℕ → List ℕ) → new.shape ≡ shape → ((i : List ℕ) → new.at i ≡ inside new.shape i (old.at (source i))) → new ≡ meaning_through shape source old
  seen_is old new shape source e h = go new.shape new.at e h
    where
      go : (s : List ℕ) (at : List ℕ → Option A) → s ≡ shape → ((i : List ℕ) → at i ≡ inside s i (old.at (source i))) → (let m : Meaning A = record { shape = s; at = at } in m) ≡ meaning_through shape source old
      go s at e h = rw (fun_ext h, e) refl

  -- a step that nothing is against
  pub taken_ok : (step : AskedStep) (old new : Meaning A) → refusal step old.shape ≡ None → new.shape ≡ step_shape step old.shape → ((i : List ℕ) → new.at i ≡ inside new.shape i (old.at (step_index step old.shape i))) → step_result step old ≡ Ok new
  taken_ok step old new allowed e h = rw allowed (ap Ok (sym (seen_is old new (step_shape step old.shape) (step_index step old.shape) e h)))

  -- two arrays of one shape with the same elements mean the same
  pub same_meaning : (old new : Meaning A) → new.shape ≡ old.shape → ((i : List ℕ) → new.at i ≡ old.at i) → new ≡ old
  same_meaning old new e h = go new.shape new.at e h
    where
      go : (s : List ℕ) (at : List ℕ → Option A) → s ≡ old.shape → ((i : List ℕ) → at i ≡ old.at i) → (let m : Meaning A = record { shape = s; at = at } in m) ≡ old
      go s at e h = rw (fun_ext h, e) refl

  -- what a path leads to, as one equation
  pub leads_is : (path : List AskedStep) (m n : Meaning A) → LeadsAlong path m n → NothingOutside n → n ≡ meaning_at_end path m
  leads_is path m n along outside = seen_is m n (shape_along path m.shape) (index_along path m.shape) along.0 (λ i. by_test i (in_box n.shape i) refl)
    where
      by_test : (i : List ℕ) (b : Bool) → in_box n.shape i ≡ b → n.at i ≡ inside n.shape i (m.at (index_along path m.shape i))
      by_test i true h = rw h (along.1 i h).1
      by_test i false h = rw h (outside i h)

  pub unchanged : (r : Option Cause) (new m : Meaning A) → is_some r ≡ true → m ≡ unless_refused r new m
  unchanged None new m some = absurd cc
  unchanged (Some cause) new m some = refl

-- What a write leaves of an array's meaning: through a path, and on two arrays.
use Rattle.std.proofs.Common.{◌≡◌, ℕ, true, List, Option, Some, None, Ok, Err, Result, refl, sym, ap, ◌∙◌, if◌then◌else◌}
use Rattle.std.specs.Prelude.{is_some}
use Rattle.nd_shape_and_slice.specs.ShapesAndIndexOrders.{in_box}
use Rattle.nd_array_core.specs.ArrayMeaning.{Meaning, inside}
use Rattle.nd_array_core.specs.scoped.ViewTasks.{OthersKeep}
use Rattle.nd_paths.specs.CallbacksOnViewsAndSplits.{IsDoneAlong}
use Rattle.nd_steps.specs.declared.refusal_causes.Cause.{Cause}
use Rattle.nd_read.specs.ScriptCalls.{AskedStep, Acting}
use Rattle.nd_steps.specs.StepTestsAndShapes.{keep_tests, shape_along, index_along}
use Rattle.nd_steps.specs.WritesThroughViewsAndSplits.{act_tests, act_refusal, path_tests, path_refusal, write_refusal, meaning_at_end, leading_to, new_or_old, written, parts_refusal}
use Rattle.nd_steps.specs.WriteResults.{acted_elements_unless, written_path, Acts, ActsOnTwo, WritesThrough, as_one}
use Rattle.nd_steps.proofs.StepEquations.{tests_pass, tests_fail, same_meaning}
use Rattle.nd_steps.proofs.IndexesOfBoxes.{leads_here, leads_nowhere}

-- ---- an act on an array, or on two

module _ {A : Type 0} where
  -- a refused act changes nothing
  pub acts_refused : (act : Acting A) (m : Meaning A) (r : Option Cause) → is_some r ≡ true → r ≡ act_refusal act m.shape → Acts {E = Unit {0}} act m m (Ok r)
  acts_refused act m None some e = absurd cc
  acts_refused act m (Some cause) some e = (e, λ i. refl)

  -- where there is a cause against one of two acts, neither changes anything
  pub both_refused : (first second : Acting A) (lower upper : Meaning A) (r : Option Cause) → is_some r ≡ true → r ≡ parts_refusal first second lower.shape upper.shape → ActsOnTwo {E = Unit {0}} first second lower upper lower upper (Ok r)
  both_refused first second lower upper None some e = absurd cc
  both_refused first second lower upper (Some cause) some e = (e, λ i. refl, λ i. refl)

-- ---- an act at the end of a path

module _ {A : Type 0} (path : List AskedStep) (act : Acting A) where
  -- where the path isn't refused the act decides
  end_decides : (ns : List ℕ) → path_refusal path ns ≡ None → act_refusal act (shape_along path ns) ≡ write_refusal path act ns
  end_decides ns h = sym (tests_pass (path_tests keep_tests path ns) (act_tests act (shape_along path ns)) h)

  module _ (old new : Meaning A) (shape : new.shape ≡ old.shape) where
    abbrev ends : List ℕ
    ends = shape_along path old.shape

    abbrev source : List ℕ → List ℕ
    source = index_along path old.shape

    -- the index that one at the end names has the element that is seen there
    at_source : (at : List ℕ → Option A) → ((j : List ℕ) → (meaning_at_end path new).at j ≡ at j) → (j : List ℕ) → in_box ends j ≡ true → new.at (source j) ≡ at j
    at_source at seen j box =
        let here : inside ends j (new.at (source j)) ≡ new.at (source j) = ap (λ b. if b then new.at (source j) else None) box in
        sym here ∙ (ap (λ ns. inside (shape_along path ns) j (new.at (index_along path ns j))) (sym shape) ∙ seen j)

    -- what is seen at the end, and that every other index keeps its element, tell all elements
    led_back : (at : List ℕ → Option A) → ((j : List ℕ) → (meaning_at_end path new).at j ≡ at j) → OthersKeep ends source old.at new.at → (i : List ℕ) → new.at i ≡ new_or_old at (old.at i) (leading_to ends source i)
    led_back at seen others i = by_leading (leading_to ends source i) refl
      where
        by_leading : (o : Option (List ℕ)) → leading_to ends source i ≡ o → new.at i ≡ new_or_old at (old.at i) o
        by_leading None none = others i (λ j box same. leads_nowhere ends source i j none box same)
        by_leading (Some j) is = let h = leads_here ends source i j is in ap new.at (sym h.1) ∙ at_source at seen j h.0

    written_is : ((j : List ℕ) → (meaning_at_end path new).at j ≡ acted_elements_unless None act (meaning_at_end path old) j) → OthersKeep ends source old.at new.at → new ≡ written path act old
    written_is seen others = same_meaning (written path act old) new shape (led_back (acted_elements_unless None act (meaning_at_end path old)) seen others)

    -- where the end means what it meant, so does the array
    stays_so : ((j : List ℕ) → (meaning_at_end path new).at j ≡ (meaning_at_end path old).at j) → OthersKeep ends source old.at new.at → new ≡ old
    stays_so seen others = same_meaning old new shape (λ i. led_back (meaning_at_end path old).at seen others i ∙ by_leading i (leading_to ends source i) refl)
      where
        by_leading : (i : List ℕ) (o : Option (List ℕ)) → leading_to ends source i ≡ o → new_or_old (meaning_at_end path old).at (old.at i) o ≡ old.at i
        by_leading i None none = refl
        by_leading i (Some j) is =
            let h = leads_here ends source i j is in
            let here : inside ends j (old.at (source j)) ≡ old.at (source j) = ap (λ b. if b then old.at (source j) else None) h.0 in
            here ∙ ap old.at h.1

    pub writes : {E : Type 0} (answer : Result (Result (Option Cause) E) Cause) → IsDoneAlong (written_path path) (λ m n a. Acts act m n a) old new answer → WritesThrough path act old new (as_one answer)
    writes (Ok (Ok None)) d = (d.1.0 ∙ end_decides old.shape d.0, written_is d.1.1 d.2)
    writes (Ok (Ok (Some cause))) d = (d.1.0 ∙ end_decides old.shape d.0, stays_so d.1.1 d.2)
    writes (Ok (Err error)) d = (sym (end_decides old.shape d.0) ∙ d.1.0, d.1.1)
    writes (Err cause) d = (sym (tests_fail (path_tests keep_tests path old.shape) (act_tests act (shape_along path old.shape)) cause d.0), d.1)

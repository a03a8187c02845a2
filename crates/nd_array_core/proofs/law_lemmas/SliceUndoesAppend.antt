-- The first of two arrays, one after the other, is the slice to its length.
use Rattle.nd_array_core.proofs.NamesFromOtherCrates.{◌≡◌, ℕ, ◌+◌, ◌-◌, ◌*◌, ◌<◌, ◌≤◌, max, Bool, true, false, cond, ltb, List, length, get_or, set, refl, ap, sym, ◌∙◌, arith, pos, Option, unwrap_or, lt-ltb, get_or-set_same, set-get_or, set-set, in_box, bound_on, quotient_up, sliced_from, sliced_index, sliced_length, sliced_shape, coordinate_below, bound_within, in_box-longer, Meaning, inside}
use Rattle.nd_array_core.specs.ConcatenationAndSplit.{broadcast_after, concatenated}
use Rattle.nd_array_core.specs.LayoutLaws.{NothingOutside}
use Rattle.nd_array_core.specs.ArrayMeaning.{meaning_through}
use Rattle.nd_array_core.specs.growth.AppendedSlicedBack.{slice_of_first, AppendedAndSliced}
use Rattle.nd_array_core.proofs.law_lemmas.LayoutLaws.{same_meaning, inside_box}

first_count : (n k : ℕ) → k ≤ n → sliced_length n (slice_of_first k) ≡ k
first_count n k h =
    ap (λ (o : Option ℕ). quotient_up (max (unwrap_or (bound_on n (pos 0)) 0) (unwrap_or o 0) - unwrap_or (bound_on n (pos 0)) 0) 1) (bound_within n k h)
    ∙ (ap (λ (o : Option ℕ). quotient_up (max (unwrap_or o 0) k - unwrap_or o 0) 1) (bound_within n 0 (omega arith))
    ∙ omega arith)

first_from : (n k c : ℕ) → sliced_from n (slice_of_first k) c ≡ c
first_from n k c = ap (λ (o : Option ℕ). unwrap_or o 0 + c * 1) (bound_within n 0 (omega arith)) ∙ omega arith

module _ {A : Type 0} (m n : Meaning A) (a : ℕ) (on : a < length m.shape) where
  abbrev len : ℕ
  len = get_or m.shape a 0

  abbrev both : ℕ
  both = len + get_or n.shape a 0

  abbrev wide : List ℕ
  wide = set m.shape a both

  long : get_or wide a 0 ≡ both
  long = get_or-set_same m.shape a both 0 on

  shape : sliced_shape wide a (slice_of_first len) ≡ m.shape
  shape =
      ap (λ l. set wide a (sliced_length l (slice_of_first len))) long
      ∙ (ap (set wide a) (first_count both len (omega arith))
      ∙ (set-set m.shape a both len ∙ set-get_or m.shape a 0))

  source : (i : List ℕ) → sliced_index wide a (slice_of_first len) i ≡ i
  source i = ap (set i a) (first_from (get_or wide a 0) len (get_or i a 0)) ∙ set-get_or i a 0

  each : NothingOutside m → (i : List ℕ) → inside (sliced_shape wide a (slice_of_first len)) i ((concatenated a m n).at (sliced_index wide a (slice_of_first len) i)) ≡ m.at i
  each nothing i =
      ap (λ l. inside l i ((concatenated a m n).at (sliced_index wide a (slice_of_first len) i))) shape
      ∙ (ap (λ j. inside m.shape i ((concatenated a m n).at j)) (source i) ∙ by_test (in_box m.shape i) refl)
    where
      by_test : (b : Bool) → in_box m.shape i ≡ b → inside m.shape i ((concatenated a m n).at i) ≡ m.at i
      by_test true h =
          let x = cond (ltb (get_or i a 0) len) (m.at i) ((broadcast_after a m n).at (set i a (get_or i a 0 - len))) in
          inside_box m.shape i (inside wide i x) h
          ∙ (inside_box wide i x (in_box-longer m.shape i a both on (omega arith) h)
          ∙ ap (λ b. cond b (m.at i) ((broadcast_after a m n).at (set i a (get_or i a 0 - len)))) (lt-ltb (get_or i a 0) len (coordinate_below m.shape i a h on)))
      by_test false h = rw h (sym (nothing i h))

  pub sliced_back : NothingOutside m → meaning_through (sliced_shape wide a (slice_of_first len)) (sliced_index wide a (slice_of_first len)) (concatenated a m n) ≡ m
  sliced_back nothing = same_meaning m (sliced_shape wide a (slice_of_first len)) (λ i. inside (sliced_shape wide a (slice_of_first len)) i ((concatenated a m n).at (sliced_index wide a (slice_of_first len) i))) shape (each nothing)

pub appended_and_sliced : {A : Type 0} → AppendedAndSliced A
appended_and_sliced m n a nothing on = sliced_back m n a on nothing

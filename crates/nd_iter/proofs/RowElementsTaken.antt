-- What is left once a row, or an element of one, is taken.
use Rattle.std.proofs.Common.{◌≡◌, ℕ, suc, ◌+◌, ◌-◌, ◌<◌, ◌≤◌, List, [], ◌∷◌, ◌++◌, drop, length, take, refl, ap, sym, ◌∙◌, arith}
use Rattle.std.specs.Prelude.{Some, slice_get}
use Rattle.std.specs.List.{slice_range}
use Rattle.std.proofs.Math.Seq.{take-add}
use Rattle.std.proofs.lemmas.List.{append_assoc, append-nil, drop-append-le, drop-take, length-drop, length-take-le}
use Rattle.nd_shape_and_slice.proofs.ListEdits.{got_taken, got_dropped}
use Rattle.nd_iter.proofs.ListEndsTaken.{all_taken, first_taken, none_taken}

module _ {A : Type 0} where
  got_of_part : (row : List A) (low high k : ℕ) → k < high - low → slice_get (slice_range row low high) k ≡ slice_get row (low + k)
  got_of_part row low high k h = got_taken (drop low row) (high - low) k h ∙ got_dropped row low k

module _ {A : Type 0} (all : List A) where
  abbrev pub IsListed : ℕ → List A → Type 0
  IsListed from xs = (k : ℕ) → k < length xs → slice_get xs k ≡ slice_get all (from + k)

  row_is : (row : List A) (from to : ℕ) → to ≡ from + length row → IsListed from row → drop from (take to all) ≡ row
  row_is [] from to is lists = none_taken all from to (omega (arith, is))
  row_is (x ∷ row) from to is lists =
      let start : from ≡ from + 0 = omega arith in
      let there : slice_get all from ≡ Some x = ap (slice_get all) start ∙ sym (lists 0 (omega arith)) in
      first_taken all from to x there (omega (arith, is)) ∙ ap (λ ys. x ∷ ys) (row_is row (from + 1) to (omega (arith, is)) after_first)
    where
      after_first : IsListed (from + 1) row
      after_first k below = let next : from + suc k ≡ from + 1 + k = omega arith in lists (suc k) (omega (arith, below)) ∙ ap (slice_get all) next

  -- a part of a row of which each element is listed
  module _ (row : List A) (start low high : ℕ) (lists : IsListed start row) (inside : high ≤ length row) (some : low < high) (xs : List A) (is : xs ≡ slice_range row low high) where
    part_long : length xs ≡ high - low
    part_long = ap length is ∙ length-take-le (high - low) (drop low row) (let rest = length-drop low row in omega (arith, rest, inside, some))

    part_listed : (from : ℕ) → start + low ≡ from → IsListed from xs
    part_listed from same k below =
        let there : start + (low + k) ≡ from + k = omega (arith, same) in
        ap (λ ys. slice_get ys k) is
        ∙ got_of_part row low high k (omega (arith, part_long, below))
        ∙ lists (low + k) (omega (arith, part_long, below, inside))
        ∙ ap (slice_get all) there

    module _ (from to : ℕ) (within : to ≤ length all) where
      parts_joined : (mid : ℕ) → from ≤ mid → mid ≤ to → drop from (take to all) ≡ drop from (take mid all) ++ drop mid (take to all)
      parts_joined mid first last =
          let whole : to ≡ mid + (to - mid) = omega (arith, last) in
          let long = length-take-le mid all (omega (arith, last, within)) in
          ap (λ n. drop from (take n all)) whole
          ∙ ap (drop from) (take-add mid (to - mid) all)
          ∙ drop-append-le from (take mid all) (take (to - mid) (drop mid all)) (omega (arith, long, first))
          ∙ ap (λ ys. drop from (take mid all) ++ ys) (sym (drop-take mid (to - mid) all) ∙ ap (λ n. drop mid (take n all)) (sym whole))

      pub row_taken_ahead : start + low ≡ from → start + high ≤ to → drop from (take to all) ≡ xs ++ drop (from + length xs) (take to all)
      row_taken_ahead same upto =
          parts_joined (from + length xs) (omega arith) (omega (arith, part_long, same, upto, some))
          ∙ ap (λ ys. ys ++ drop (from + length xs) (take to all)) (row_is xs from (from + length xs) refl (part_listed from same))

      pub row_taken_after : from ≤ start + low → start + high ≡ to → drop from (take to all) ≡ drop from (take (to - length xs) all) ++ xs
      row_taken_after first same =
          let begins : start + low ≡ to - length xs = omega (arith, part_long, same, some) in
          parts_joined (to - length xs) (omega (arith, begins, first)) (omega arith)
          ∙ ap (λ ys. drop from (take (to - length xs) all) ++ ys) (row_is xs (to - length xs) to (omega (arith, part_long, same, some)) (part_listed (to - length xs) begins))

-- what is in hand ahead, between and after
module _ {A : Type 0} (a e b : List A) where
  pub none_left : a ≡ [] → e ≡ [] → b ≡ [] → a ++ (e ++ b) ≡ []
  none_left p q r = λ i. p i ++ (q i ++ r i)

  module _ (rest : List A) (x : A) where
    pub first_after : a ≡ [] → e ≡ [] → b ≡ x ∷ rest → a ++ (e ++ b) ≡ x ∷ (a ++ (e ++ rest))
    first_after p q r = (λ i. p i ++ (q i ++ r i)) ∙ sym (λ i. x ∷ (p i ++ (q i ++ rest)))

    pub last_after : b ≡ rest ++ x ∷ [] → a ++ (e ++ b) ≡ (a ++ (e ++ rest)) ++ x ∷ []
    last_after r =
        ap (λ ys. a ++ (e ++ ys)) r
        ∙ ap (λ ys. a ++ ys) (sym (append_assoc e rest (x ∷ [])))
        ∙ sym (append_assoc a (e ++ rest) (x ∷ []))

-- the elements of ranks between what is in hand
module _ {A : Type 0} (all a b : List A) where
  pub all_left : (count : ℕ) → length all ≡ count → a ≡ [] → b ≡ [] → a ++ (drop 0 (take count all) ++ b) ≡ all
  all_left count long p r = (λ i. p i ++ (drop 0 (take count all) ++ r i)) ∙ append-nil (drop 0 (take count all)) ∙ all_taken all count long

-- What is left of a list once its first or its last element is taken.
use Rattle.std.proofs.Common.{◌≡◌, ℕ, zero, suc, ◌+◌, ◌-◌, ◌<◌, ◌≤◌, List, [], ◌∷◌, ◌++◌, drop, length, map, take, refl, ap, sym, ◌∙◌, arith}
use Rattle.std.specs.Prelude.{Some, slice_get}
use Rattle.std.specs.List.{range_with_len}
use Rattle.std.proofs.Math.Seq.{take-length}
use Rattle.std.proofs.lemmas.List.{length-drop, length-take-le}
use Rattle.std.proofs.lemmas.List.FromFn.{length-map-range_with_len, map-range_with_len_more}

module _ {A : Type 0} where
  first_of : (xs : List A) (from to : ℕ) (x : A) → slice_get xs from ≡ Some x → from < to → drop from (take to xs) ≡ x ∷ drop (suc from) (take to xs)
  first_of [] from to x e h = cc
  first_of (y ∷ ys) zero zero x e h = absurd (omega (arith, h))
  first_of (y ∷ ys) zero (suc to) x e h = let same : y ≡ x = cc in ap (λ z. z ∷ take to ys) same
  first_of (y ∷ ys) (suc from) zero x e h = absurd (omega (arith, h))
  first_of (y ∷ ys) (suc from) (suc to) x e h = first_of ys from to x e (omega (arith, h))

  -- the first
  pub first_taken : (xs : List A) (from to : ℕ) (x : A) → slice_get xs from ≡ Some x → from < to → drop from (take to xs) ≡ x ∷ drop (from + 1) (take to xs)
  first_taken xs from to x e h = let more : suc from ≡ from + 1 = omega arith in first_of xs from to x e h ∙ ap (λ k. x ∷ drop k (take to xs)) more

  last_of : (xs : List A) (from to : ℕ) (x : A) → slice_get xs to ≡ Some x → from ≤ to → drop from (take (suc to) xs) ≡ drop from (take to xs) ++ x ∷ []
  last_of [] from to x e h = cc
  last_of (y ∷ ys) zero zero x e h = let same : y ≡ x = cc in ap (λ z. z ∷ []) same
  last_of (y ∷ ys) zero (suc to) x e h = ap (λ zs. y ∷ zs) (last_of ys zero to x e (omega arith))
  last_of (y ∷ ys) (suc from) zero x e h = absurd (omega (arith, h))
  last_of (y ∷ ys) (suc from) (suc to) x e h = last_of ys from to x e (omega (arith, h))

  -- the last
  pub last_taken : (xs : List A) (from to : ℕ) (x : A) → slice_get xs (to - 1) ≡ Some x → from < to → drop from (take to xs) ≡ drop from (take (to - 1) xs) ++ x ∷ []
  last_taken xs from to x e h = let whole : to ≡ suc (to - 1) = omega (arith, h) in ap (λ k. drop from (take k xs)) whole ∙ last_of xs from (to - 1) x e (omega (arith, h))

  none_of : (xs : List A) (from : ℕ) → drop from (take from xs) ≡ []
  none_of [] zero = refl
  none_of [] (suc from) = refl
  none_of (y ∷ ys) zero = refl
  none_of (y ∷ ys) (suc from) = none_of ys from

  -- nothing is left
  pub none_taken : (xs : List A) (from to : ℕ) → from ≡ to → drop from (take to xs) ≡ []
  none_taken xs from to same = ap (λ k. drop from (take k xs)) (sym same) ∙ none_of xs from

  -- all is left
  pub all_taken : (xs : List A) (count : ℕ) → length xs ≡ count → drop 0 (take count xs) ≡ xs
  all_taken xs count long = ap (λ k. take k xs) (sym long) ∙ take-length xs

  -- how much is left
  pub length_taken : (xs : List A) (from to : ℕ) → to ≤ length xs → length (drop from (take to xs)) ≡ to - from
  length_taken xs from to within = length-drop from (take to xs) ∙ ap (λ n. n - from) (length-take-le to xs within)

  -- the first of what a function gives at numbers from one up to another
  pub first_given : (f : ℕ → A) (from to : ℕ) → from < to → map f (range_with_len from (to - from)) ≡ f from ∷ map f (range_with_len (from + 1) (to - (from + 1)))
  first_given f from to h = let more : to - from ≡ suc (to - (from + 1)) = omega (arith, h) in ap (λ n. map f (range_with_len from n)) more

  -- the last
  pub last_given : (f : ℕ → A) (from to : ℕ) → from < to → map f (range_with_len from (to - from)) ≡ map f (range_with_len from (to - 1 - from)) ++ f (to - 1) ∷ []
  last_given f from to h =
      let more : to - from ≡ to - 1 - from + 1 = omega (arith, h) in
      ap (λ n. map f (range_with_len from n)) more ∙ map-range_with_len_more f from (to - 1 - from) (to - 1) (omega (arith, h))

  -- nothing is left
  pub none_given : (f : ℕ → A) (from to : ℕ) → from ≡ to → map f (range_with_len from (to - from)) ≡ []
  none_given f from to same = let none : to - from ≡ 0 = omega (arith, same) in ap (λ n. map f (range_with_len from n)) none

  -- how many are left
  pub length_given : (f : ℕ → A) (from count : ℕ) → length (map f (range_with_len from count)) ≡ count
  length_given f from count = length-map-range_with_len f from count

  -- a step from either end, of a list that is such
  module _ (f : ℕ → A) (from to : ℕ) (s : List A) (is : s ≡ map f (range_with_len from (to - from))) (more : from < to) where
    pub last_step : (x : A) → x ≡ f (to - 1) → s ≡ map f (range_with_len from (to - 1 - from)) ++ x ∷ []
    last_step x same = is ∙ last_given f from to more ∙ (λ t. map f (range_with_len from (to - 1 - from)) ++ sym same t ∷ [])

    pub last_nearer : length (map f (range_with_len from (to - 1 - from))) < length s
    last_nearer =
        let left = length_given f from (to - 1 - from) in
        let before = ap length is ∙ length_given f from (to - from) in
        omega (arith, more, left, before)

  -- the same of a part of a list
  module _ (xs : List A) (from to : ℕ) (within : to ≤ length xs) (s : List A) (is : s ≡ drop from (take to xs)) (more : from < to) (x : A) where
    pub first_part : slice_get xs from ≡ Some x → s ≡ x ∷ drop (from + 1) (take to xs)
    first_part there = is ∙ first_taken xs from to x there more

    pub last_part : slice_get xs (to - 1) ≡ Some x → s ≡ drop from (take (to - 1) xs) ++ x ∷ []
    last_part there = is ∙ last_taken xs from to x there more

    pub first_part_nearer : length (drop (from + 1) (take to xs)) < length s
    first_part_nearer =
        let left = length_taken xs (from + 1) to within in
        let before = ap length is ∙ length_taken xs from to within in
        omega (arith, more, left, before)

    pub last_part_nearer : length (drop from (take (to - 1) xs)) < length s
    last_part_nearer =
        let left = length_taken xs from (to - 1) (omega (arith, within)) in
        let before = ap length is ∙ length_taken xs from to within in
        omega (arith, more, left, before)

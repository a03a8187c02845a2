-- How many elements pass a test, counted by additions that may wrap.
use Rattle.std.proofs.Common.{◌≡◌, ℕ, suc, ◌+◌, ◌%◌, ◌^◌, ◌<◌, ◌≤◌, Bool, true, false, cond, List, [], ◌∷◌, length, Option, Some, None, refl, ap, sym, ◌∙◌, arith}
use Rattle.std.specs.Prelude.{if◌then◌else◌}
use Rattle.std.specs.List.{fold, count_by, filter_map, cons_option}
use Rattle.std.proofs.lemmas.List.Sums.{sum_by-cons}

module _ {A : Type 0} (p : A → Bool) where
  -- one more where the element passes
  abbrev pub counted : ℕ → A → ℕ
  counted count x = if p x then (count + 1) % 2 ^ 64 else count

  -- no order of two elements matters
  pub counted_free : (count : ℕ) (x y : A) → counted (counted count x) y ≡ counted (counted count y) x
  counted_free count x y = by_tests (p x) (p y)
    where
      by_tests : (s t : Bool) → (if t then ((if s then (count + 1) % 2 ^ 64 else count) + 1) % 2 ^ 64 else (if s then (count + 1) % 2 ^ 64 else count)) ≡ (if s then ((if t then (count + 1) % 2 ^ 64 else count) + 1) % 2 ^ 64 else (if t then (count + 1) % 2 ^ 64 else count))
      by_tests true true = refl
      by_tests true false = refl
      by_tests false true = refl
      by_tests false false = refl

  all_counted : (count : ℕ) (xs : List A) → count + length xs < 2 ^ 64 → fold counted count xs ≡ count + count_by p xs
  all_counted count [] few = omega arith
  all_counted count (x ∷ xs) few = by_test (p x) (λ n h. all_counted n xs h) ∙ ap (λ n. count + n) (sym (sum_by-cons (λ y. cond (p y) 1 0) x xs))
    where
      by_test : (t : Bool) → ((n : ℕ) → n + length xs < 2 ^ 64 → fold counted n xs ≡ n + count_by p xs) → fold counted (if t then (count + 1) % 2 ^ 64 else count) xs ≡ count + (cond t 1 0 + count_by p xs)
      by_test true rest =
          let small : (count + 1) % 2 ^ 64 ≡ count + 1 = omega (arith, few) in
          let more : (count + 1) + length xs < 2 ^ 64 = omega (arith, few) in
          let sum : (count + 1) + count_by p xs ≡ count + (1 + count_by p xs) = omega arith in
          ap (λ n. fold counted n xs) small ∙ rest (count + 1) more ∙ sum
      by_test false rest =
          let more : count + length xs < 2 ^ 64 = omega (arith, few) in
          let sum : count + count_by p xs ≡ count + (0 + count_by p xs) = omega arith in
          rest count more ∙ sum

  pub counted_all : (xs : List A) → length xs < 2 ^ 64 → fold counted 0 xs ≡ count_by p xs
  counted_all xs few =
      let none : 0 + count_by p xs ≡ count_by p xs = omega arith in
      all_counted 0 xs (omega (arith, few)) ∙ none

-- no more items than were asked
pub filtered_short : {X Y : Type 0} (f : X → Option Y) (xs : List X) → length (filter_map f xs) ≤ length xs
filtered_short f [] = omega arith
filtered_short {X} {Y} f (x ∷ xs) = by_case (f x) (filtered_short f xs)
  where
    by_case : (o : Option Y) → length (filter_map f xs) ≤ length xs → length (cons_option o (filter_map f xs)) ≤ suc (length xs)
    by_case None rest = omega (arith, rest)
    by_case (Some y) rest = omega (arith, rest)

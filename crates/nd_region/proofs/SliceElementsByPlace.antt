-- A slice's elements by their places.
use mathlib.Core.Path.{◌≡◌, sym, ap, ◌∙◌}
use Rattle.std.specs.Prelude.{ℕ, zero, suc, ◌+◌, ◌-◌, ◌<◌, ◌≤◌, List, [], Bool, true, false, nat_eq, if◌then◌else◌, Some, length, replicate, take, drop}
use Rattle.std.specs.Option.{is_some}
use native.Mathlib.Omega.{arith}
use lib.Dec.{eqb-suc-zero}
use lib.ListN.{get_or}
use Rattle.std.proofs.lemmas.List.{get_or-take, get_or-drop}
use Rattle.nd_region.specs.SharedRegion.{slice_stored}
use Rattle.nd_region.proofs.RegionValueAndPlaces.{held_at, told}
use Rattle.nd_region.proofs.RegionContentsForCallers.{stored_at, whole_stored}

above : (n : ℕ) → 0 < n → nat_eq n 0 ≡ false
above zero lt = absurd (omega arith)
above (suc n) lt = eqb-suc-zero n

module _ {A : Type 0} where
  pub whole_bound : (xs : List A) (p : ℕ) → is_some (slice_stored xs p) ≡ true → p < length xs
  whole_bound xs p e = let g = held_at xs (replicate (length xs) true) p e in (stored_at xs (replicate (length xs) true) p g.0 g.0 (told xs (replicate (length xs) true) p g)).0

  pub run_bound : (xs : List A) (p n : ℕ) → 0 < n → ((k : ℕ) → k < n → is_some (slice_stored xs (p + k)) ≡ true) → p + n ≤ length xs
  run_bound xs p n pos_n has = omega (arith, whole_bound xs (p + (n - 1)) (has (n - 1) (omega arith)))

  pub run_values : (xs : List A) (p n : ℕ) → p + n ≤ length xs → (k : ℕ) (d : A) → k < n → slice_stored xs (p + k) ≡ Some (get_or (take n (drop p xs)) k d)
  run_values xs p n le k d lt = whole_stored xs (p + k) d (omega arith) ∙ ap (λ x. Some x) (sym (get_or-take n (drop p xs) k d lt ∙ get_or-drop p xs k d))

  pub run_shown : (xs ys : List A) (p n : ℕ) → ((k : ℕ) → k < n → is_some (slice_stored xs (p + k)) ≡ true) → (length ys ≡ n) × (ys ≡ if nat_eq n 0 then [] else take n (drop p xs))
      → (length ys ≡ n) × ((k : ℕ) (d : A) → k < n → slice_stored xs (p + k) ≡ Some (get_or ys k d))
  run_shown xs ys p n has is = (
    is.0,
    λ k d lt.
        let some : nat_eq n 0 ≡ false = above n (omega (arith, lt)) in
        run_values xs p n (run_bound xs p n (omega arith) has) k d lt ∙ ap (λ l. Some (get_or l k d)) (sym (is.1 ∙ ap (λ (c : Bool). if c then [] else take n (drop p xs)) some)),
  )

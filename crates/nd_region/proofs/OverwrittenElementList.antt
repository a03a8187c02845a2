-- A row with other elements in it: as many as all of it, or none.
use mathlib.Core.Path.{◌≡◌, refl, ap, ◌∙◌}
use native.Mathlib.Omega.{arith}
use native.Mathlib.Nat.{not-suc-le-zero}
use lib.ListN.{take-append-drop}
use Rattle.std.specs.Prelude.{ℕ, suc, ◌+◌, List, [], ◌∷◌, ◌++◌, length, take, drop}
use Rattle.nd_region.specs.RegionPlaces.{overwritten_items, run_written}

module _ {X : Type 0} where
  pub overwritten_by : (xs ys : List X) → length ys ≡ length xs → overwritten_items xs ys ≡ ys
  overwritten_by [] [] long = refl
  overwritten_by [] (y ∷ ys) long = absurd (not-suc-le-zero {n = 0} (let bad : suc (length ys) ≡ 0 = long in omega arith))
  overwritten_by (x ∷ xs) [] long = absurd (not-suc-le-zero {n = 0} (let bad : 0 ≡ suc (length xs) = long in omega arith))
  overwritten_by (x ∷ xs) (y ∷ ys) long = let i : suc (length ys) ≡ suc (length xs) = long in ap (λ zs. y ∷ zs) (overwritten_by xs ys (omega arith))

  pub nothing_written : (xs : List X) (p : ℕ) → run_written xs p 0 [] ≡ xs
  nothing_written xs p = ap (λ k. take p xs ++ drop k xs) {x = p + 0} {y = p} (omega arith) ∙ take-append-drop p xs

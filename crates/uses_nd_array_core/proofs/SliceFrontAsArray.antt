-- The first elements of a slice, seen as an array of one axis: the place of the index p is p.
use Rattle.std.proofs.Common.{◌≡◌, ℕ, ◌+◌, ◌*◌, Bool, true, false, List, [], ◌∷◌, refl, ap, sym, ◌∙◌, arith}
use Rattle.std.specs.Prelude.{Some, None, nat_lt, slice_get, if◌then◌else◌}
use Rattle.std.proofs.Math.Bool.{and-true, and-false}
use Rattle.nd_array_core.specs.Prelude.{RowMajor}
use Rattle.nd_array_core.specs.ShapesAndIndexOrders.{in_box}
use Rattle.nd_array_core.specs.scoped.SlicesLentAsViews.{GivenShape, place_in_slice, element_in_slice, KeepsUnseen}

abbrev pub front : ℕ → GivenShape
front n = (n ∷ [], RowMajor, None)

some_is : {p q : ℕ} → Some p ≡ Some q → p ≡ q
some_is e = cc

module _ {A : Type 0} (xs ys : List A) (n : ℕ) (x : A) (kept : KeepsUnseen xs ys (front n)) (filled : (i : List ℕ) → in_box (n ∷ []) i ≡ true → element_in_slice ys (front n) i ≡ Some x) where
  unseen : (p : ℕ) → nat_lt p n ≡ false → (i : List ℕ) → place_in_slice (front n) i ≡ Some p → ⊥
  unseen p past [] e = cc
  unseen p past (q ∷ []) e = by_test (nat_lt q n) refl
    where
      by_test : (b : Bool) → nat_lt q n ≡ b → ⊥
      by_test true h =
          let same : q * 1 + 0 ≡ p = some_is (rw h at e) in
          let is : q ≡ p = omega (arith, same) in
          let below : nat_lt p n ≡ true = ap (λ k. nat_lt k n) (sym is) ∙ h in
          cc
      by_test false h = let none = rw h at e in cc
  unseen p past (q ∷ r ∷ rs) e = let none = rw (and-false (nat_lt q n)) at e in cc

  pub front_filled : (p : ℕ) → slice_get ys p ≡ (if nat_lt p n then Some x else slice_get xs p)
  front_filled p = by_test (nat_lt p n) refl
    where
      by_test : (b : Bool) → nat_lt p n ≡ b → slice_get ys p ≡ (if nat_lt p n then Some x else slice_get xs p)
      by_test true h =
          let there : in_box (n ∷ []) (p ∷ []) ≡ true = and-true (nat_lt p n) ∙ h in
          let at : p * 1 + 0 ≡ p = omega arith in
          let is : slice_get ys (p * 1 + 0) ≡ Some x = rw h at (filled (p ∷ []) there) in
          rw h (ap (slice_get ys) (sym at) ∙ is)
      by_test false h = rw h (kept p (unseen p h))

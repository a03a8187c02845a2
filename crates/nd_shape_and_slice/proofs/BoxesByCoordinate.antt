-- Indexes of a box, coordinate by coordinate.
use Rattle.nd_shape_and_slice.proofs.NamesFromOtherCrates.{◌≡◌, ℕ, zero, suc, ◌<◌, true, List, [], ◌∷◌, length, drop, get_or, refl, arith, nat_tests}
use Rattle.nd_shape_and_slice.specs.ShapesAndIndexOrders.{in_box}
use Rattle.nd_shape_and_slice.proofs.RowMajor.{in_box-cons}

-- each coordinate of an index in the box is below its length
pub coordinate_below : (ns is : List ℕ) (k : ℕ) → in_box ns is ≡ true → k < length ns → get_or is k 0 < get_or ns k 0
coordinate_below [] is k h lt = absurd (omega arith)
coordinate_below (n ∷ ns) [] k h lt = cc
coordinate_below (n ∷ ns) (i ∷ is) zero h lt = (in_box-cons n ns i is h).0
coordinate_below (n ∷ ns) (i ∷ is) (suc k) h lt = coordinate_below ns is k (in_box-cons n ns i is h).1 (omega arith)

-- an index with one coordinate for each axis, each below its length, is in the box
pub in_box-from_coordinates : (ns is : List ℕ) → length is ≡ length ns → ((k : ℕ) → k < length ns → get_or is k 0 < get_or ns k 0) → in_box ns is ≡ true
in_box-from_coordinates [] [] e h = refl
in_box-from_coordinates [] (i ∷ is) e h = absurd (omega arith)
in_box-from_coordinates (n ∷ ns) [] e h = absurd (omega arith)
in_box-from_coordinates (n ∷ ns) (i ∷ is) e h =
    let first : i < n = h zero (omega arith) in
    let rest = in_box-from_coordinates ns is (omega arith) (λ k lt. h (suc k) (omega arith)) in
    grind (arith, nat_tests, first, rest)

-- what is left of an index in the box is in what is left of the box
pub in_box-drop : (ns is : List ℕ) (k : ℕ) → in_box ns is ≡ true → in_box (drop k ns) (drop k is) ≡ true
in_box-drop ns is zero h = h
in_box-drop [] [] (suc k) h = refl
in_box-drop [] (i ∷ is) (suc k) h = cc
in_box-drop (n ∷ ns) [] (suc k) h = cc
in_box-drop (n ∷ ns) (i ∷ is) (suc k) h = in_box-drop ns is k (in_box-cons n ns i is h).1

-- What stands at each index of the axes but the first, broadcast to all of them.
use Rattle.std.proofs.Common.{◌≡◌, ◌∙◌, ◌^◌, refl, ap, ℕ, ◌<◌, Bool, true, false, List, [], ◌∷◌, length, arith}
use Rattle.std.specs.Prelude.{nat_lt, nat_le}
use Rattle.std.specs.List.{remove}
use Rattle.std.proofs.lemmas.Bool.Decides.{nat_tests}
use Rattle.nd_shape_and_slice.specs.ShapesAndIndexOrders.{in_box, HasCheckedSize, nonzero_product}
use Rattle.nd_shape_and_slice.specs.Broadcast.{broadcasts, broadcast_index, axes_added}
use Rattle.nd_shape_and_slice.proofs.IndexesWithChangedCoordinates.{stretches_itself, stretched_index-itself}
use Rattle.std.proofs.lemmas.Bool.{and_parts}
use Rattle.nd_array_core.specs.ArrayMeaning.{Meaning, inside}
use Rattle.nd_array_core.specs.elements.BroadcastPairs.{broadcast_at}

one_added : (n : ℕ) (ms : List ℕ) → axes_added ms (n ∷ ms) ≡ 1
one_added n ms = omega arith

pub rest_broadcasts : (ns rest : List ℕ) → HasCheckedSize ns → 0 < length ns → rest ≡ remove ns 0 → broadcasts rest ns ≡ true
rest_broadcasts [] rest checked some same = absurd (omega (arith, some))
rest_broadcasts (n ∷ ms) rest checked some same =
    let small : nat_lt (nonzero_product (n ∷ ms)) (2 ^ 63) ≡ true = grind (arith, nat_tests, checked) in
    let few : nat_le (length ms) (length (n ∷ ms)) ≡ true = grind (arith, nat_tests) in
    ap (λ rs. broadcasts rs (n ∷ ms)) same ∙ rw (small, few, one_added n ms) (stretches_itself ms)

index_of_rest : (n : ℕ) (ms i : List ℕ) → in_box (n ∷ ms) i ≡ true → broadcast_index ms (n ∷ ms) i ≡ remove i 0
index_of_rest n ms [] h = absurd cc
index_of_rest n ms (k ∷ is) h = rw (one_added n ms) (stretched_index-itself ms is (and_parts (nat_lt k n) (in_box ms is) h).1)

pub rest_at : {A : Type 0} (m : Meaning A) (ns : List ℕ) → 0 < length ns → m.shape ≡ remove ns 0 → (i : List ℕ) → broadcast_at ns m i ≡ inside ns i (m.at (remove i 0))
rest_at m [] some same i = absurd (omega (arith, some))
rest_at m (n ∷ ms) some same i = by_box (in_box (n ∷ ms) i) refl
  where
    by_box : (b : Bool) → in_box (n ∷ ms) i ≡ b → broadcast_at (n ∷ ms) m i ≡ inside (n ∷ ms) i (m.at (remove i 0))
    by_box true h = ap (λ j. inside (n ∷ ms) i (m.at j)) (ap (λ rs. broadcast_index rs (n ∷ ms) i) same ∙ index_of_rest n ms i h)
    by_box false h = rw h refl

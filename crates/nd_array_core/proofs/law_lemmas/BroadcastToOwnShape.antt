-- A shape broadcast to itself: each index names itself.
use Rattle.nd_array_core.proofs.NamesFromOtherCrates.{◌≡◌, ℕ, ◌^◌, Bool, true, false, List, length, refl, ap, sym, ◌∙◌, arith, None, nat_lt, nat_le, nat_tests, in_box, HasCheckedSize, nonzero_product, broadcasts, axes_added, stretched_index-itself, stretches_itself, Meaning}
use Rattle.nd_array_core.specs.elements.BroadcastPairs.{broadcast_at}

none_added : (ns : List ℕ) → axes_added ns ns ≡ 0
none_added ns = omega arith

pub broadcasts_itself : (ns to : List ℕ) → HasCheckedSize ns → to ≡ ns → broadcasts ns to ≡ true
broadcasts_itself ns to checked same =
    let small : nat_lt (nonzero_product ns) (2 ^ 63) ≡ true = grind (arith, nat_tests, checked) in
    let few : nat_le (length ns) (length ns) ≡ true = grind (arith, nat_tests) in
    ap (broadcasts ns) same ∙ rw (small, few, none_added ns) (stretches_itself ns)

pub itself_at : {A : Type 0} (m : Meaning A) (to : List ℕ) → ((i : List ℕ) → in_box m.shape i ≡ false → m.at i ≡ None) → to ≡ m.shape → (i : List ℕ) → broadcast_at to m i ≡ m.at i
itself_at m to nothing same i = ap (λ ns. broadcast_at ns m i) same ∙ by_box (in_box m.shape i) refl
  where
    by_box : (b : Bool) → in_box m.shape i ≡ b → broadcast_at m.shape m i ≡ m.at i
    by_box true h = rw (h, none_added m.shape) (ap m.at (stretched_index-itself m.shape i h))
    by_box false h = rw h (sym (nothing i h))

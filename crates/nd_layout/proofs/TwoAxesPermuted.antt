-- Two axes in another order are as they are, or exchanged.
use Rattle.nd_layout.proofs.NamesFromOtherCrates.{◌≡◌, ℕ, zero, suc, List, [], ◌∷◌, length, get_or, map, refl, arith, swap, HasEachAxis}
use Rattle.nd_layout.proofs.PermutedAxes.{axis_below}

pub two_permuted : {A : Type 0} (d : A) (axes : List ℕ) (xs : List A) → HasEachAxis axes (length xs) → length axes ≡ 2 → swap xs 0 (get_or axes 0 0) ≡ map (λ a. get_or xs a d) axes
two_permuted d [] xs each two = absurd (omega (arith, two))
two_permuted d (a ∷ []) xs each two = absurd (omega (arith, two))
two_permuted d (a ∷ b ∷ c ∷ axes) xs each two = absurd (omega (arith, two))
two_permuted d (a ∷ b ∷ []) [] each two = absurd (omega (arith, each.0))
two_permuted d (a ∷ b ∷ []) (x ∷ []) each two = absurd (omega (arith, each.0))
two_permuted d (a ∷ b ∷ []) (x ∷ y ∷ z ∷ xs) each two = absurd (omega (arith, each.0))
two_permuted d (zero ∷ zero ∷ []) (x ∷ y ∷ []) each two = let once = each.1 1 (omega arith) in absurd (omega (arith, once))
two_permuted d (zero ∷ suc zero ∷ []) (x ∷ y ∷ []) each two = refl
two_permuted d (suc zero ∷ zero ∷ []) (x ∷ y ∷ []) each two = refl
two_permuted d (suc zero ∷ suc zero ∷ []) (x ∷ y ∷ []) each two = let once = each.1 0 (omega arith) in absurd (omega (arith, once))
two_permuted d (zero ∷ suc (suc b) ∷ []) (x ∷ y ∷ []) each two = let below = axis_below (0 ∷ suc (suc b) ∷ []) 2 1 each (omega arith) in absurd (omega (arith, below))
two_permuted d (suc zero ∷ suc (suc b) ∷ []) (x ∷ y ∷ []) each two = let below = axis_below (1 ∷ suc (suc b) ∷ []) 2 1 each (omega arith) in absurd (omega (arith, below))
two_permuted d (suc (suc a) ∷ b ∷ []) (x ∷ y ∷ []) each two = let below = axis_below (suc (suc a) ∷ b ∷ []) 2 0 each (omega arith) in absurd (omega (arith, below))

-- The lowest place and the indexes of a box whose axis gets longer.
use Rattle.nd_layout.proofs.NamesFromOtherCrates.{ℕ, zero, suc, ◌+◌, ◌-◌, ◌*◌, ◌<◌, ◌≤◌, ◌≡◌, List, [], ◌∷◌, length, get_or, set, true, false, arith, refl, ap, sym, ◌∙◌, ℤ, pos, negsuc, int_lt, true≢false, set-get_or, in_box, coordinate_below, in_box-set}
use Rattle.nd_layout.specs.StridesAfterLayoutCalls.{reach_down}

-- the lowest place stays where an axis gets another length, and a stride that isn't negative
pub reach_down-set : (ns : List ℕ) (ss : List ℤ) (a m t : ℕ) → length ss ≡ length ns → a < length ns → reach_down (set ns a m) (set ss a (pos t)) ≡ reach_down (set ns a 1) ss
reach_down-set [] ss a m t e h = absurd (omega arith)
reach_down-set (n ∷ ns) [] a m t e h = absurd (omega arith)
reach_down-set (n ∷ ns) (pos s ∷ ss) zero m t e h = refl
reach_down-set (n ∷ ns) (negsuc s ∷ ss) zero m t e h = omega arith
reach_down-set (n ∷ ns) (pos s ∷ ss) (suc a) m t e h = reach_down-set ns ss a m t (omega arith) (omega arith)
reach_down-set (n ∷ ns) (negsuc s ∷ ss) (suc a) m t e h = ap (λ x. (n - 1) * suc s + x) (reach_down-set ns ss a m t (omega arith) (omega arith))

-- a longer axis keeps the indexes
pub in_box-longer : (ns i : List ℕ) (a m : ℕ) → a < length ns → get_or ns a 0 ≤ m → in_box ns i ≡ true → in_box (set ns a m) i ≡ true
in_box-longer ns i a m h longer inside =
    let below = coordinate_below ns i a inside h in
    ap (in_box (set ns a m)) (sym (set-get_or i a 0)) ∙ in_box-set ns i a m (get_or i a 0) inside (omega arith)

-- an integer that isn't negative
pub not_negative : (s : ℤ) → int_lt s (pos 0) ≡ false → (t : ℕ) × (s ≡ pos t)
not_negative (pos t) h = (t, refl)
not_negative (negsuc t) h = absurd (true≢false h)

-- The elements of more lengths of an axis.
use Rattle.nd_array_core.proofs.NamesFromOtherCrates.{◌≡◌, ℕ, ◌+◌, ◌*◌, ◌<◌, ◌≤◌, ◌^◌, List, length, get_or, set, ap, sym, subst, ◌∙◌, arith, remove, length-set, set-set, get_or-set_same, size_of, HasCheckedSize, grown_shape, grown_small, size_of-set, HasCheckedSize-set}

-- a length that is none has no checked size
pub too_long : (ns : List ℕ) (a n added : ℕ) → a < length ns → n ≡ get_or ns a 0 → (n + added < 2 ^ 64 → ⊥) → HasCheckedSize (grown_shape ns a added) → ⊥
too_long ns a n added on is over checked = let small = grown_small ns a added on checked in over (omega (arith, small, is))

-- the lengths that are added alone: fewer than all
pub added_checked : (ns xs ys : List ℕ) (a len added : ℕ) → a < length ns → added ≤ len → xs ≡ set ns a len → ys ≡ set xs a added → HasCheckedSize xs → HasCheckedSize ys
added_checked ns xs ys a len added on within grown alone checked =
    let long : length xs ≡ length ns = ap length grown ∙ length-set ns a len in
    let here : get_or xs a 0 ≡ len = ap (λ l. get_or l a 0) grown ∙ get_or-set_same ns a len 0 on in
    subst HasCheckedSize (sym alone) (HasCheckedSize-set xs a added (omega (arith, on, long)) (omega (arith, within, here)) checked)

pub added_count : (ns xs ys : List ℕ) (a len added : ℕ) → a < length ns → xs ≡ set ns a len → ys ≡ set xs a added → size_of ys ≡ added * size_of (remove ns a)
added_count ns xs ys a len added on grown alone =
    ap size_of (alone ∙ (ap (λ l. set l a added) grown ∙ set-set ns a len added)) ∙ size_of-set ns a added on

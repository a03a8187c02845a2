-- A rank below the size and its index name each other.
use Rattle.nd_shape_and_slice.proofs.NamesFromOtherCrates.{◌≡◌, ℕ, ◌+◌, ◌*◌, ◌/◌, ◌%◌, ◌<◌, true, List, [], ◌∷◌, refl, ap, ◌∙◌, arith, div-lt_iff_lt-mul, div-add-mod', div-mul-add, mod-mul-add, mod_below, and_from, nat_tests, nat_lt}
use Rattle.nd_shape_and_slice.specs.ShapesAndIndexOrders.{in_box, size_of, row_rank, index_at}
use Rattle.nd_shape_and_slice.proofs.RowMajor.{positive-cons, in_box-cons, row_rank_below}

-- the index of a rank is in the box
pub in_box-index_at : (ns : List ℕ) (r : ℕ) → r < size_of ns → in_box ns (index_at ns r) ≡ true
in_box-index_at [] r h = refl
in_box-index_at (n ∷ ns) r h =
    let s = size_of ns in
    let some : 0 < s = (positive-cons n ns (omega (arith, h))).1 in
    let first : r / s < n = (div-lt_iff_lt-mul some).1 h in
    let rest = in_box-index_at ns (r % s) (mod_below r s some) in
    and_from (nat_lt (r / s) n) (in_box ns (index_at ns (r % s))) (grind (arith, nat_tests, first)) rest

-- its rank is that rank
pub row_rank-index_at : (ns : List ℕ) (r : ℕ) → r < size_of ns → row_rank ns (index_at ns r) ≡ r
row_rank-index_at [] r h = omega (arith, h)
row_rank-index_at (n ∷ ns) r h =
    let s = size_of ns in
    let some : 0 < s = (positive-cons n ns (omega (arith, h))).1 in
    ap (λ t. r / s * s + t) (row_rank-index_at ns (r % s) (mod_below r s some)) ∙ div-add-mod' r s

-- an index of the box is that of its rank
pub index_at-row_rank : (ns i : List ℕ) → in_box ns i ≡ true → index_at ns (row_rank ns i) ≡ i
index_at-row_rank [] [] h = refl
index_at-row_rank [] (x ∷ i) h = cc
index_at-row_rank (n ∷ ns) [] h = cc
index_at-row_rank (n ∷ ns) (x ∷ i) h =
    let s = size_of ns in
    let parts = in_box-cons n ns x i h in
    let low : row_rank ns i < s = row_rank_below ns i parts.1 in
    (λ k. div-mul-add x s (row_rank ns i) low k ∷ (ap (index_at ns) (mod-mul-add x s (row_rank ns i) low) ∙ index_at-row_rank ns i parts.1) k)

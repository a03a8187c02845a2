-- A reshape keeps the elements in its order.
use Rattle.nd_array_core.proofs.NamesFromOtherCrates.{◌≡◌, ℕ, zero, suc, ◌+◌, ◌<◌, List, [], ◌∷◌, length, get_or, map, refl, ap, sym, ◌∙◌, arith, Option, cons_option, range_with_len, filter_map, size_of, index_at, indexes_of, length-map-range_with_len, get_or-map-range_with_len, ext_get_or, length-indexes_of, get_or-indexes_of, in_box-index_at, row_rank-index_at, row_major_elements}
use Rattle.nd_array_core.specs.reshape.ReshapeLaws.{ReshapedKeepsOrder}

pub filtered_map : {X Y Z : Type 0} (h : Y → Option Z) (v : X → Y) (xs : List X) → filter_map h (map v xs) ≡ filter_map (λ x. h (v x)) xs
filtered_map h v [] = refl
filtered_map h v (x ∷ xs) = ap (cons_option (h (v x))) (filtered_map h v xs)

filtered_alike : {A : Type 0} (h k : ℕ → Option A) (a n : ℕ) → ((r : ℕ) → r < a + n → h r ≡ k r) → filter_map h (range_with_len a n) ≡ filter_map k (range_with_len a n)
filtered_alike h k a zero alike = refl
filtered_alike h k a (suc n) alike = λ t. cons_option (alike a (omega arith) t) (filtered_alike h k (a + 1) n (λ r low. alike r (omega (arith, low))) t)

-- all indexes are those of the ranks
indexes_by_rank : (ns : List ℕ) → indexes_of ns ≡ map (index_at ns) (range_with_len 0 (size_of ns))
indexes_by_rank ns =
    let count = length-map-range_with_len (index_at ns) 0 (size_of ns) in
    let size = length-indexes_of ns in
    ext_get_or [] (indexes_of ns) (map (index_at ns) (range_with_len 0 (size_of ns))) (size ∙ sym count) (λ r low. let below : r < size_of ns = omega (arith, low, size) in get_or-indexes_of ns r below ∙ sym (ranked r below))
  where
    ranked : (r : ℕ) → r < size_of ns → get_or (map (index_at ns) (range_with_len 0 (size_of ns))) r [] ≡ index_at ns r
    ranked r below = get_or-map-range_with_len (index_at ns) 0 (size_of ns) r r [] below (omega arith)

pub listed_by_rank : {A : Type 0} (ns : List ℕ) (at : List ℕ → Option A) → filter_map at (indexes_of ns) ≡ filter_map (λ r. at (index_at ns r)) (range_with_len 0 (size_of ns))
listed_by_rank ns at = ap (filter_map at) (indexes_by_rank ns) ∙ filtered_map at (index_at ns) (range_with_len 0 (size_of ns))

pub reshaped_keeps_order : {A : Type 0} → ReshapedKeepsOrder A
reshaped_keeps_order m n ms of same shows =
    ap (λ ks. filter_map n.at (indexes_of ks)) same
    ∙ (listed_by_rank ms n.at
    ∙ (filtered_alike (λ r. n.at (index_at ms r)) (λ r. m.at (index_at m.shape r)) 0 (size_of ms) alike
    ∙ (ap (λ k. filter_map (λ r. m.at (index_at m.shape r)) (range_with_len 0 k)) of.1 ∙ sym (listed_by_rank m.shape m.at))))
  where
    alike : (r : ℕ) → r < 0 + size_of ms → n.at (index_at ms r) ≡ m.at (index_at m.shape r)
    alike r low =
        let below : r < size_of ms = omega (arith, low) in
        let there = in_box-index_at ms r below in
        shows (index_at ms r) ∙ (rw there refl ∙ ap (λ k. m.at (index_at m.shape k)) (row_rank-index_at ms r below))

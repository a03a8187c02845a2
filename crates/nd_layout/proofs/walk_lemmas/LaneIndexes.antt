-- The indexes of a lane, in either order: all coordinates but the fastest are those of a walk over the other axes.
use Rattle.nd_layout.proofs.NamesFromOtherCrates.{◌≡◌, ℕ, ◌+◌, ◌*◌, ◌/◌, ◌%◌, ◌<◌, true, List, [], ◌∷◌, ◌++◌, length, reverse, take, get_or, set, take_all, ◌≤◌, refl, ap, sym, ◌∙◌, arith, nat_lt, add-mul-mod_self_left, mod-eq_of_lt, add-mul-div_left, div-eq_of_lt, zero-add, mul-le-mul_right, and_parts, ltb-true, length-reverse, reverse-reverse, length-set, take-set-le, take_more_set, in_box, size_of, index_at, column_rank, Order, RowMajor, ColumnMajor, length-in_box, in_box-index_at, row_rank-index_at}
use Rattle.nd_layout.specs.RanksAndReshapeStrides.{column_index, index_in, slowest_first, slow_axis_in}
use Rattle.nd_layout.proofs.reshape_lemmas.AxesFromFastest.{ordered-set, get_or-ordered, size_of-ordered, in_box-ordered, rank_in-ordered}
use Rattle.nd_layout.proofs.walk_lemmas.PlacesCutIntoLanes.{size_of-front, index_at-front}

-- an index of the box is that of its column-major rank
pub column_index-column_rank : (ns i : List ℕ) → in_box ns i ≡ true → column_index ns (column_rank ns i) ≡ i
column_index-column_rank [] [] h = refl
column_index-column_rank [] (k ∷ i) h = cc
column_index-column_rank (n ∷ ns) [] h = cc
column_index-column_rank (n ∷ ns) (k ∷ i) h =
    let both = and_parts (nat_lt k n) (in_box ns i) h in
    let below = ltb-true k n both.0 in
    let some : 0 < n = omega arith in
    let first : (k + n * column_rank ns i) % n ≡ k = add-mul-mod_self_left k n (column_rank ns i) ∙ mod-eq_of_lt below in
    let rest : (k + n * column_rank ns i) / n ≡ column_rank ns i = add-mul-div_left k (column_rank ns i) some ∙ (ap (λ v. v + column_rank ns i) (div-eq_of_lt below) ∙ zero-add (column_rank ns i)) in
    (λ j. first j ∷ (ap (column_index ns) rest ∙ column_index-column_rank ns i both.1) j)

-- ---- from the slowest axis on
pub length-slow : {X : Type 0} (o : Order) (xs : List X) → length (slowest_first o xs) ≡ length xs
length-slow RowMajor xs = refl
length-slow ColumnMajor xs = length-reverse xs

pub slow-slow : {X : Type 0} (o : Order) (xs : List X) → slowest_first o (slowest_first o xs) ≡ xs
slow-slow RowMajor xs = refl
slow-slow ColumnMajor xs = reverse-reverse xs

pub slow-set : {X : Type 0} (o : Order) (xs : List X) (k : ℕ) (v : X) → k < length xs → slowest_first o (set xs (slow_axis_in o (length xs) k) v) ≡ set (slowest_first o xs) k v
slow-set RowMajor xs k v h = refl
slow-set ColumnMajor xs k v h = ordered-set RowMajor xs k v h

pub get_or-slow : {X : Type 0} (o : Order) (xs : List X) (k : ℕ) (d : X) → k < length xs → get_or (slowest_first o xs) k d ≡ get_or xs (slow_axis_in o (length xs) k) d
get_or-slow RowMajor xs k d h = refl
get_or-slow ColumnMajor xs k d h = get_or-ordered RowMajor xs k d h

pub size_of-slow : (o : Order) (ns : List ℕ) → size_of (slowest_first o ns) ≡ size_of ns
size_of-slow RowMajor ns = refl
size_of-slow ColumnMajor ns = size_of-ordered RowMajor ns

-- an index of a rank, from the slowest axis on
pub slow_index : (o : Order) (ns : List ℕ) (r : ℕ) → r < size_of ns → index_in o ns r ≡ slowest_first o (index_at (slowest_first o ns) r)
slow_index RowMajor ns r h = refl
slow_index ColumnMajor ns r h =
    let below : r < size_of (reverse ns) = omega (arith, h, size_of-ordered RowMajor ns) in
    let i = index_at (reverse ns) r in
    let inside = in_box-index_at (reverse ns) r below in
    let many = length-in_box (reverse ns) i inside in
    let there : in_box ns (reverse i) ≡ true = ap (λ ms. in_box ms (reverse i)) (sym (reverse-reverse ns)) ∙ (in_box-ordered RowMajor (reverse ns) i many ∙ inside) in
    let rank : column_rank ns (reverse i) ≡ r = ap (λ ms. column_rank ms (reverse i)) (sym (reverse-reverse ns)) ∙ (rank_in-ordered RowMajor (reverse ns) i many ∙ row_rank-index_at (reverse ns) r below) in
    sym (ap (column_index ns) rank) ∙ column_index-column_rank ns (reverse i) there

-- the coordinates of a lane's index: those of the walk, and one along the fastest axis
module _ (o : Order) (ns xs : List ℕ) (n q k : ℕ) (axes : length ns ≡ n + 1) (many : length xs ≡ n + 1) where
  pub lane_size : size_of (take n (slowest_first o ns)) * get_or (slowest_first o ns) n 0 ≡ size_of ns
  lane_size = size_of-front (slowest_first o ns) n (length-slow o ns ∙ axes) ∙ size_of-slow o ns

  pub lane_kept : take n (slowest_first o (set xs (slow_axis_in o (length xs) n) k)) ≡ take n (slowest_first o xs)
  lane_kept = ap (take n) (slow-set o xs n k (omega (arith, many))) ∙ take-set-le n (slowest_first o xs) n k (omega arith)

  pub lane_index : 0 < size_of ns → q < size_of (take n (slowest_first o ns)) → k < get_or (slowest_first o ns) n 0 → take n (slowest_first o xs) ≡ index_at (take n (slowest_first o ns)) q → set xs (slow_axis_in o (length xs) n) k ≡ index_in o ns (q * get_or (slowest_first o ns) n 0 + k)
  lane_index some outer inner walked =
      let slow = slowest_first o xs in
      let c = get_or (slowest_first o ns) n 0 in
      let here : n < length slow = omega (arith, many, length-slow o xs) in
      let put : set slow n k ≡ take n slow ++ k ∷ [] = sym (take_all (n + 1) (set slow n k) (omega (arith, many, length-slow o xs, length-set slow n k))) ∙ take_more_set slow n k here in
      let whole = lane_size in
      let more : (q + 1) * c ≤ size_of (take n (slowest_first o ns)) * c = mul-le-mul_right {m = q + 1} {n = size_of (take n (slowest_first o ns))} c (omega (arith, outer)) in
      let next : (q + 1) * c ≡ q * c + c = grind arith in
      let below : q * c + k < size_of ns = omega (arith, whole, more, next, inner) in
      let front = index_at-front (slowest_first o ns) n q k (length-slow o ns ∙ axes) (omega (arith, some, size_of-slow o ns)) outer inner in
      sym (slow-slow o (set xs (slow_axis_in o (length xs) n) k))
      ∙ (ap (slowest_first o) (slow-set o xs n k (omega (arith, many)) ∙ (put ∙ (ap (λ is. is ++ k ∷ []) walked ∙ sym front)))
      ∙ sym (slow_index o ns (q * c + k) below))

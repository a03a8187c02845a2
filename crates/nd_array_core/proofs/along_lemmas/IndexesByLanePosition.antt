-- The indexes of an array by a lane of an axis and a coordinate there, in an order of either.
use Rattle.nd_array_core.proofs.NamesFromOtherCrates.{◌≡◌, ℕ, ◌+◌, ◌<◌, ◌≤◌, true, List, length, get_or, set, ltb, ◌&&◌, ap, sym, subst, ◌∙◌, arith, Some, insert, remove, and_from, lt-ltb, ltb-true, get_or-insert_at, length-remove, in_box, size_of, row_rank, index_at, indexed_shape, and_left, and_right, length-in_box, row_rank_below, in_box-index_at, row_rank-index_at, index_at-row_rank, remove-inserted, insert-removed, set-inserted, in_box-inserted, IsPairing, RisesAlong, IsNumbering, listed, listed_at, listed_has}

module _ (ns : List ℕ) (a : ℕ) (on : a < length ns) {lane column : ℕ → ℕ} {number : ℕ → ℕ → ℕ} {all : ℕ} (pairs : IsPairing (size_of (indexed_shape ns a)) (get_or ns a 0) all lane column number) where
  abbrev outer : List ℕ
  outer = indexed_shape ns a

  abbrev pub index_of : ℕ → List ℕ
  index_of m = insert (index_at outer (lane m)) a (column m)

  abbrev pub number_of : List ℕ → ℕ
  number_of i = number (row_rank outer (remove i a)) (get_or i a 0)

  fits : (m : ℕ) → m < all → a ≤ length (index_at outer (lane m))
  fits m h =
      let long = length-in_box outer (index_at outer (lane m)) (in_box-index_at outer (lane m) (pairs.lane_below m h)) in
      let shorter = length-remove ns a on in
      omega (arith, on, long, shorter)

  pub index_lane : (m : ℕ) → m < all → remove (index_of m) a ≡ index_at outer (lane m)
  index_lane m h = remove-inserted (index_at outer (lane m)) a (column m) (fits m h)

  pub index_rank : (m : ℕ) → m < all → row_rank outer (remove (index_of m) a) ≡ lane m
  index_rank m h = ap (row_rank outer) (index_lane m h) ∙ row_rank-index_at outer (lane m) (pairs.lane_below m h)

  pub index_column : (m : ℕ) → m < all → get_or (index_of m) a 0 ≡ column m
  index_column m h = get_or-insert_at (index_at outer (lane m)) a (column m) 0 (fits m h)

  -- an index of the array is that of its lane and its coordinate
  long_in : (i : List ℕ) → in_box ns i ≡ true → a < length i
  long_in i h = let long = length-in_box ns i h in omega (arith, on, long)

  boxes : (i : List ℕ) → in_box ns i ≡ true → (ltb (get_or i a 0) (get_or ns a 0) && in_box outer (remove i a)) ≡ true
  boxes i h = sym (in_box-inserted ns (remove i a) a (get_or i a 0) on) ∙ (ap (in_box ns) (insert-removed i a 0 (long_in i h)) ∙ h)

  pub lane_in : (i : List ℕ) → in_box ns i ≡ true → in_box outer (remove i a) ≡ true
  lane_in i h = and_right (ltb (get_or i a 0) (get_or ns a 0)) (in_box outer (remove i a)) (boxes i h)

  pub column_in : (i : List ℕ) → in_box ns i ≡ true → get_or i a 0 < get_or ns a 0
  column_in i h = ltb-true (get_or i a 0) (get_or ns a 0) (and_left (ltb (get_or i a 0) (get_or ns a 0)) (in_box outer (remove i a)) (boxes i h))

  pub pair_numbers : IsNumbering ns all index_of number_of
  pair_numbers = record {
    inside = λ m h. in_box-inserted ns (index_at outer (lane m)) a (column m) on ∙ and_from (ltb (column m) (get_or ns a 0)) (in_box outer (index_at outer (lane m))) (lt-ltb (column m) (get_or ns a 0) (pairs.column_below m h)) (in_box-index_at outer (lane m) (pairs.lane_below m h));
    rank_is = λ m h. (λ t. number (index_rank m h t) (index_column m h t)) ∙ pairs.is_number m h;
    index_is = λ i h.
        let r = row_rank outer (remove i a) in
        let k = get_or i a 0 in
        let below = row_rank_below outer (remove i a) (lane_in i h) in
        (λ t. insert (index_at outer (pairs.lane_is r k below (column_in i h) t)) a (pairs.column_is r k below (column_in i h) t)) ∙ (ap (λ o. insert o a k) (index_at-row_rank outer (remove i a) (lane_in i h)) ∙ insert-removed i a 0 (long_in i h));
    below = λ i h. pairs.below (row_rank outer (remove i a)) (get_or i a 0) (row_rank_below outer (remove i a) (lane_in i h)) (column_in i h);
  }

  -- in the order of their numbers each index comes after the one before it
  pub pairs_rise : (n : ℕ) → n ≤ all → RisesAlong a (listed index_of n)
  pairs_rise n within m k i found above =
      let here = listed_has index_of n m i found in
      let under : m < all = let below = here.0 in omega (arith, below, within) in
      let is_column : column m ≡ k + 1 = sym (index_column m under) ∙ (ap (λ o. get_or o a 0) (sym here.1) ∙ above) in
      let high = pairs.column_below m under in
      let later : k + 1 < get_or ns a 0 = subst (λ c. c < get_or ns a 0) is_column high in
      let r = lane m in
      let on_r = pairs.lane_below m under in
      let whole : number r (k + 1) ≡ m = ap (number r) (sym is_column) ∙ pairs.is_number m under in
      let before : number r k < m = subst (λ z. number r k < z) whole (pairs.rises r k on_r later) in
      let low : k < get_or ns a 0 = omega (arith, later) in
      let same : index_of (number r k) ≡ set i a k =
      (λ t. insert (index_at outer (pairs.lane_is r k on_r low t)) a (pairs.column_is r k on_r low t)) ∙ (sym (set-inserted (index_at outer r) a (column m) k (fits m under)) ∙ ap (λ o. set o a k) (sym here.1)) in
      (number r k, before, listed_at index_of n (number r k) (let below = here.0 in omega (arith, before, below)) ∙ ap Some same)

-- Numbers of what lies in lanes of so many each, one lane after the other.
use Rattle.nd_elements.proofs.NamesFromOtherCrates.{◌≡◌, ℕ, zero, suc, ◌+◌, ◌*◌, ◌/◌, ◌%◌, ◌<◌, ◌≤◌, true, List, [], ◌∷◌, ◌++◌, length, get_or, set, ap, sym, subst, ◌∙◌, arith, Some, slice_get, div-lt_iff_lt-mul, div-add-mod', div-mul-add, mod-mul-add, mod_below, row_fits, length-set, set-set, set-get_or, get_or-set_same, length_push, same_Some, slice_get_within, in_box, size_of, row_rank, index_at, coordinate_below, length-in_box, row_rank_below, in_box-index_at, row_rank-index_at, index_at-row_rank, in_box-set, got_last, got_before}
use Rattle.nd_elements.specs.along.AxisLanes.{IsPairing}
use Rattle.nd_elements.specs.along.CallsRisingAlongLanes.{next_index, RisesAlong}
use Rattle.nd_elements.proofs.BoolAndResultCases.{by_order}
use Rattle.nd_elements.proofs.CallsInFreeOrder.{IsNumbering, listed}
use Rattle.nd_elements.proofs.elements_lemmas.FoldOrder.{length-listed}

-- the lane of a number, and where it stands there
pub number_lane : (lanes w m : ℕ) → m < lanes * w → (m / w < lanes) × (m % w < w)
number_lane lanes w m below = let some = width m lanes w below in ((div-lt_iff_lt-mul some).1 below, mod_below m w some)
  where
    width : (m lanes w : ℕ) → m < lanes * w → 0 < w
    width m lanes zero below = let none : lanes * 0 ≡ 0 = omega arith in absurd (omega (arith, below, none))
    width m lanes (suc w) below = omega arith

-- the number of a place in a lane
pub lane_number : (w r k : ℕ) → k < w → ((r * w + k) / w ≡ r) × ((r * w + k) % w ≡ k)
lane_number w r k below = (div-mul-add r w k below, mod-mul-add r w k below)

pub lane_number_below : (lanes w r k : ℕ) → r < lanes → k < w → r * w + k < lanes * w
lane_number_below lanes w r k on below = let fits = row_fits r w lanes w on (omega arith) in omega (arith, fits, below)

-- what a list by numbers has at each of them
pub longer : {A : Type 0} (xs : List A) (y : A) → length (xs ++ y ∷ []) ≡ suc (length xs)
longer xs y = omega (arith, length_push xs y)

pub listed_at : (index : ℕ → List ℕ) (n k : ℕ) → k < n → slice_get (listed index n) k ≡ Some (index k)
listed_at index zero k below = absurd (omega (arith, below))
listed_at index (suc n) k below =
    by_order k n
    (λ under. got_before (listed index n) (index n ∷ []) k (let long = length-listed index n in omega (arith, long, under)) ∙ listed_at index n k under)
    (λ past. let same : n ≡ k = omega (arith, past, below) in got_last (listed index n) (index n) k (length-listed index n ∙ same) ∙ ap (λ j. Some (index j)) same)

pub listed_has : (index : ℕ → List ℕ) (n k : ℕ) (i : List ℕ) → slice_get (listed index n) k ≡ Some i → (k < n) × (i ≡ index k)
listed_has index n k i e =
    let under : k < n = omega (arith, length-listed index n, slice_get_within (listed index n) k i e) in
    (under, same_Some i (index k) (sym e ∙ listed_at index n k under))

-- one lane after the other
pub by_lanes : (lanes count : ℕ) → IsPairing lanes count (lanes * count) (λ m. m / count) (λ m. m % count) (λ r k. r * count + k)
by_lanes lanes count = record {
  lane_below = λ m h. (number_lane lanes count m h).0;
  column_below = λ m h. (number_lane lanes count m h).1;
  is_number = λ m h. div-add-mod' m count;
  below = λ r k on under. lane_number_below lanes count r k on under;
  lane_is = λ r k on under. (lane_number count r k under).0;
  column_is = λ r k on under. (lane_number count r k under).1;
  rises = λ r k on under. omega arith;
}

-- one coordinate after the other
pub by_columns : (lanes count : ℕ) → IsPairing lanes count (count * lanes) (λ m. m % lanes) (λ m. m / lanes) (λ r k. k * lanes + r)
by_columns lanes count = record {
  lane_below = λ m h. (number_lane count lanes m h).1;
  column_below = λ m h. (number_lane count lanes m h).0;
  is_number = λ m h. div-add-mod' m lanes;
  below = λ r k on under. lane_number_below count lanes k r under on;
  lane_is = λ r k on under. (lane_number lanes k r on).1;
  column_is = λ r k on under. (lane_number lanes k r on).0;
  rises = λ r k on under. let one : (k + 1) * lanes ≡ k * lanes + lanes = omega arith in omega (arith, one, on);
}

module _ (ns : List ℕ) (a : ℕ) (on : a < length ns) (w : ℕ) {lane column : ℕ → ℕ} {number : ℕ → ℕ → ℕ} {all : ℕ} (pairs : IsPairing (size_of (set ns a 1)) w all lane column number) where
  abbrev outer : List ℕ
  outer = set ns a 1

  -- the index of a number, where the axis has length w
  abbrev pub index_of_number : ℕ → List ℕ
  index_of_number m = set (index_at outer (lane m)) a (column m)

  abbrev pub number_of_index : List ℕ → ℕ
  number_of_index i = number (row_rank outer (set i a 0)) (get_or i a 0)

  outer_on : a < length outer
  outer_on = let long = length-set ns a 1 in omega (arith, on, long)

  -- an outer index has coordinate 0 there
  first_back : (o : List ℕ) → in_box outer o ≡ true → set o a 0 ≡ o
  first_back o h =
      let none : get_or o a 0 ≡ 0 = omega (arith, coordinate_below outer o a h outer_on, get_or-set_same ns a 1 0 on) in
      ap (set o a) (sym none) ∙ set-get_or o a 0

  index_on : (o : List ℕ) → in_box outer o ≡ true → a < length o
  index_on o h = let long = length-in_box outer o h in omega (arith, outer_on, long)

  -- the lane of a number's index, and its coordinate
  pub number_row : (m : ℕ) → m < all → row_rank outer (set (index_of_number m) a 0) ≡ lane m
  number_row m under =
      let on_r = pairs.lane_below m under in
      let o = index_at outer (lane m) in
      ap (row_rank outer) (set-set o a (column m) 0 ∙ first_back o (in_box-index_at outer (lane m) on_r)) ∙ row_rank-index_at outer (lane m) on_r

  pub number_column : (m : ℕ) → m < all → get_or (index_of_number m) a 0 ≡ column m
  number_column m under = get_or-set_same (index_at outer (lane m)) a (column m) 0 (index_on (index_at outer (lane m)) (in_box-index_at outer (lane m) (pairs.lane_below m under)))

  pub lane_numbers : IsNumbering (set ns a w) all index_of_number number_of_index
  lane_numbers = record { inside = inside; rank_is = rank_is; index_is = index_is; below = below }
    where
      inside : (m : ℕ) → m < all → in_box (set ns a w) (index_of_number m) ≡ true
      inside m under =
          subst (λ ms. in_box ms (index_of_number m) ≡ true) (set-set ns a 1 w) (in_box-set outer (index_at outer (lane m)) a w (column m) (in_box-index_at outer (lane m) (pairs.lane_below m under)) (pairs.column_below m under))

      rank_is : (m : ℕ) → m < all → number_of_index (index_of_number m) ≡ m
      rank_is m under = (λ i. number (number_row m under i) (number_column m under i)) ∙ pairs.is_number m under

      outer_in : (i : List ℕ) → in_box (set ns a w) i ≡ true → in_box outer (set i a 0) ≡ true
      outer_in i h = subst (λ ms. in_box ms (set i a 0) ≡ true) (set-set ns a w 1) (in_box-set (set ns a w) i a 1 0 h (omega arith))

      at_axis : (i : List ℕ) → in_box (set ns a w) i ≡ true → get_or i a 0 < w
      at_axis i h =
          subst (λ n. get_or i a 0 < n) (get_or-set_same ns a w 0 on) (coordinate_below (set ns a w) i a h (omega (arith, on, length-set ns a w)))

      index_is : (i : List ℕ) → in_box (set ns a w) i ≡ true → index_of_number (number_of_index i) ≡ i
      index_is i h =
          let r = row_rank outer (set i a 0) in
          let k = get_or i a 0 in
          let on_r = row_rank_below outer (set i a 0) (outer_in i h) in
          (λ j. set (index_at outer (pairs.lane_is r k on_r (at_axis i h) j)) a (pairs.column_is r k on_r (at_axis i h) j)) ∙ (ap (λ o. set o a k) (index_at-row_rank outer (set i a 0) (outer_in i h)) ∙ (set-set i a 0 k ∙ set-get_or i a 0))

      below : (i : List ℕ) → in_box (set ns a w) i ≡ true → number_of_index i < all
      below i h = pairs.below (row_rank outer (set i a 0)) (get_or i a 0) (row_rank_below outer (set i a 0) (outer_in i h)) (at_axis i h)

  -- the index after that of a number
  pub number_next : (m : ℕ) → m < all → next_index a (index_of_number m) ≡ set (index_at outer (lane m)) a (suc (column m))
  number_next m under = ap (λ k. set (index_of_number m) a (k + 1)) (number_column m under) ∙ (set-set (index_at outer (lane m)) a (column m) (column m + 1) ∙ ap (set (index_at outer (lane m)) a) (one_more (column m)))
    where
      one_more : (k : ℕ) → k + 1 ≡ suc k
      one_more k = omega arith

  -- in the order of their numbers each index comes after the one before it
  pub numbers_rise : (n : ℕ) → n ≤ all → RisesAlong a (listed index_of_number n)
  numbers_rise n within m k i found above =
      let here = listed_has index_of_number n m i found in
      let under : m < all = let below = here.0 in omega (arith, below, within) in
      let is_column : column m ≡ k + 1 = sym (number_column m under) ∙ (ap (λ o. get_or o a 0) (sym here.1) ∙ above) in
      let r = lane m in
      let on_r = pairs.lane_below m under in
      let later : k + 1 < w = subst (λ c. c < w) is_column (pairs.column_below m under) in
      let low : k < w = omega (arith, later) in
      let before : number r k < m = subst (λ z. number r k < z) (ap (number r) (sym is_column) ∙ pairs.is_number m under) (pairs.rises r k on_r later) in
      let same : index_of_number (number r k) ≡ set i a k =
      (λ j. set (index_at outer (pairs.lane_is r k on_r low j)) a (pairs.column_is r k on_r low j)) ∙ (sym (set-set (index_at outer r) a (column m) k) ∙ ap (λ o. set o a k) (sym here.1)) in
      (number r k, before, listed_at index_of_number n (number r k) (let below = here.0 in omega (arith, before, below)) ∙ ap Some same)

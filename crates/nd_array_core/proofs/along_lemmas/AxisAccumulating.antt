-- Lanes gone along, by the array's indexes.
use Rattle.nd_array_core.proofs.NamesFromOtherCrates.{◌≡◌, ℕ, zero, suc, ◌+◌, ◌-◌, ◌*◌, ◌<◌, Bool, true, false, List, [], length, get_or, set, ℤ, refl, ap, sym, ◌∙◌, subst, arith, Option, None, Some, is_some, Bor, MutBor, Mut, length-set, set-set, set-get_or, get_or-set_same, in_box, size_of, row_rank, index_at, collapsed_shape, place_of, coordinate_below, length-in_box, in_box-index_at, in_box-set, Placement, KeepsApart, inside, stored_at, names_place, place_number, HoldsAll, option_both, OthersStay, LanePlaces, LieThrough, IsPairing, ListsBox, removed_shape, next_index, StartsAlong, ChangesAfter, AccumulatesBy, AccumulatesAll, AccumulableAlong, AreAccumulatedBy, AreAccumulated, TakesLanes, lane_found, lanes_differ, others_stayed, stored_same, IsNumbering, listed, listed_part, listed_all, done_at_each, by_lanes, index_of_number, number_of_index, number_row, number_column, number_next, lane_numbers, numbers_rise, ran_at, ran_weaker, ran_listed}
use Rattle.nd_array_core.proofs.along_lemmas.LanePlacesByIndex.{row_of, row_below, in_lane}

module _ {layout : Placement} {a : ℕ} {places : LanePlaces} (on : a < length layout.lengths) (many : length layout.strides ≡ length layout.lengths) (by : LieThrough a layout places) (some : 0 < get_or layout.lengths a 0) where
  abbrev ns : List ℕ
  ns = layout.lengths

  abbrev outer : List ℕ
  outer = collapsed_shape ns a

  abbrev place : ℕ → ℕ → ℤ
  place = places.place

  abbrev all : ℕ
  all = size_of outer

  -- how many calls each lane has
  abbrev w : ℕ
  w = get_or ns a 0 - 1

  long : suc w ≡ get_or ns a 0
  long = omega (arith, some)

  abbrev row_in : List ℕ → ℕ
  row_in = row_of on by

  row : (r : ℕ) → r < all → r < places.lanes
  row r below = subst (λ m. r < m) (sym by.lanes) below

  column_of : (k : ℕ) → k < suc w → k < places.count
  column_of k under = subst (λ m. k < m) (sym by.count) (subst (λ m. k < m) long under)

  module _ {A : Type 0} (stored : ℕ → Option A) where
    abbrev pub at : List ℕ → Option A
    at i = inside ns i (stored_at stored (place_of layout.offset layout.strides i))

    -- what lies at a place of a lane is the element at its index
    lane_element : (r k : ℕ) → r < all → k < suc w → stored_at stored (place r k) ≡ at (set (index_at outer r) a k)
    lane_element r k below under = lane_found by stored r k (row r below) (column_of k under)

    module _ {lane column : ℕ → ℕ} {number : ℕ → ℕ → ℕ} {total : ℕ} (pairs : IsPairing all w total lane column number) where
      here_is : (m : ℕ) → m < total → stored_at stored (place (lane m) (column m)) ≡ at (index_of_number ns a on w pairs m)
      here_is m below = let under = pairs.column_below m below in lane_element (lane m) (column m) (pairs.lane_below m below) (omega (arith, under))

      next_is : (m : ℕ) → m < total → stored_at stored (place (lane m) (suc (column m))) ≡ at (next_index a (index_of_number ns a on w pairs m))
      next_is m below = let under = pairs.column_below m below in lane_element (lane m) (suc (column m)) (pairs.lane_below m below) (omega (arith, under)) ∙ ap at (sym (number_next ns a on w pairs m below))

  shorter_numbers : {lane column : ℕ → ℕ} {number : ℕ → ℕ → ℕ} {total : ℕ} (pairs : IsPairing all w total lane column number) → IsNumbering (removed_shape ns a) total (index_of_number ns a on w pairs) (number_of_index ns a on w pairs)
  shorter_numbers pairs = lane_numbers ns a on w pairs

  module _ {F A : Type 0} (g : Mut F (Bor A × (MutBor A × Unit {0})) (Unit {0} × (MutBor A × Unit {0}))) (old : ℕ → Option A) (f : F) where
    takes_all : AccumulableAlong g ns a (at old) f → TakesLanes g place all w old f
    takes_all takes total lane column number pairs left m now below starts run x y shows gives =
        takes seen (listed index m) now (index m) seen_starts (numbers.inside m below) (listed_part numbers m below) (numbers_rise ns a on w pairs (suc m) below)
        (ran_listed (λ p i q. ChangesAfter g (seen i) (at old (next_index a i)) (seen (next_index a i)) p q) index f now m
        (ran_weaker (λ p j q. ChangesAfter g (left (lane j) (column j)) (stored_at old (place (lane j) (suc (column j)))) (left (lane j) (suc (column j))) p q)
        (λ p j q. ChangesAfter g (seen (index j)) (at old (next_index a (index j))) (seen (next_index a (index j))) p q) f now m
        (λ p j q under call.
        let inside_j : j < total = omega (arith, under, below) in
        subst (λ o. ChangesAfter g o (at old (next_index a (index j))) (seen (next_index a (index j))) p q) (sym (seen_here j inside_j))
        (subst (λ o. ChangesAfter g (left (lane j) (column j)) o (seen (next_index a (index j))) p q) (next_is old pairs j inside_j)
        (subst (λ o. ChangesAfter g (left (lane j) (column j)) (stored_at old (place (lane j) (suc (column j)))) o p q) (sym (seen_next j inside_j)) call))) run))
        x y (seen_here m below ∙ shows) (sym (next_is old pairs m below) ∙ gives)
      where
        numbers : IsNumbering (removed_shape ns a) total (index_of_number ns a on w pairs) (number_of_index ns a on w pairs)
        numbers = shorter_numbers pairs

        index : ℕ → List ℕ
        index = index_of_number ns a on w pairs

        seen : List ℕ → Option A
        seen i = left (row_in i) (get_or i a 0)

        seen_here : (j : ℕ) → j < total → seen (index j) ≡ left (lane j) (column j)
        seen_here j under = λ i. left (number_row ns a on w pairs j under i) (number_column ns a on w pairs j under i)

        seen_next : (j : ℕ) → j < total → seen (next_index a (index j)) ≡ left (lane j) (suc (column j))
        seen_next j under =
            let o = index_at outer (lane j) in
            let inside_o = in_box-index_at outer (lane j) (pairs.lane_below j under) in
            let as_long = length-in_box outer o inside_o in
            let same_long = length-set ns a 1 in
            let on_o : a < length o = omega (arith, on, as_long, same_long) in
            let row : row_in (set o a (suc (column j))) ≡ lane j = ap (row_rank outer) (set-set o a (suc (column j)) 0 ∙ sym (set-set o a (column j) 0)) ∙ number_row ns a on w pairs j under in
            ap seen (number_next ns a on w pairs j under) ∙ (λ i. left (row i) (get_or-set_same o a (suc (column j)) 0 on_o i))

        seen_starts : StartsAlong ns a (at old) seen
        seen_starts i h zero_there =
            ap (left (row_in i)) zero_there ∙ (starts (row_in i) (row_below on by i h)
            ∙ (ap (λ k. stored_at old (place (row_in i) k)) (sym zero_there) ∙ rw h (ap (stored_at old) (in_lane on by i h))))

    fewer : places.count - 1 ≡ w
    fewer = ap (λ m. m - 1) by.count

    pub axis_accumulable : AccumulableAlong g ns a (at old) f → TakesLanes g place places.lanes (places.count - 1) old f
    axis_accumulable takes = subst (λ m. TakesLanes g place m (places.count - 1) old f) (sym by.lanes) (subst (λ m. TakesLanes g place all m old f) (sym fewer) (takes_all takes))

    module _ (new : ℕ → Option A) (last : F) (left : AreAccumulated g place places.lanes (places.count - 1) old new f last) where
      done : AreAccumulated g place all w old new f last
      done = subst (λ m. AreAccumulated g place all m old new f last) fewer (subst (λ m. AreAccumulated g place m (places.count - 1) old new f last) by.lanes left)

      pub axis_visits : AccumulatesAll g ns a (at old) (at new) f
      axis_visits =
          let pairs = done.pairs in
          let lane = done.lane in
          let column = done.column in
          let index = index_of_number ns a on w pairs in (
            last,
            (
              listed index done.all,
              listed_all (shorter_numbers pairs),
              numbers_rise ns a on w pairs done.all (omega arith),
              ran_listed (λ p i q. ChangesAfter g (at new i) (at old (next_index a i)) (at new (next_index a i)) p q) index f last done.all
                  (ran_weaker (λ p j q. ChangesAfter g (stored_at new (place (lane j) (column j))) (stored_at old (place (lane j) (suc (column j)))) (stored_at new (place (lane j) (suc (column j)))) p q)
                  (λ p j q. ChangesAfter g (at new (index j)) (at old (next_index a (index j))) (at new (next_index a (index j))) p q) f last done.all
                  (λ p j q under call.
                  subst (λ o. ChangesAfter g o (at old (next_index a (index j))) (at new (next_index a (index j))) p q) (here_is new pairs j under)
                  (subst (λ o. ChangesAfter g (stored_at new (place (lane j) (column j))) o (at new (next_index a (index j))) p q) (next_is old pairs j under)
                  (subst (λ o. ChangesAfter g (stored_at new (place (lane j) (column j))) (stored_at old (place (lane j) (suc (column j)))) o p q) (next_is new pairs j under) call))) done.calls),
            ),
          )

      -- the first place of each lane holds what it held
      start_kept : KeepsApart layout → (r : ℕ) → r < all → stored_at new (place r 0) ≡ stored_at old (place r 0)
      start_kept apart r below =
          stored_same old new (place r 0) (λ p e. done.left p (λ q j on_q under f'.
          let same = (lanes_differ by many apart q (suc j) r 0 (row q on_q) (row r below) (column_of (suc j) (omega (arith, under))) (column_of 0 (omega arith)) (f' ∙ sym e)).1 in absurd (omega (arith, same))))

      pub axis_first : KeepsApart layout → (i : List ℕ) → get_or i a 0 ≡ 0 → at new i ≡ at old i
      axis_first apart i none = by_test (in_box ns i) refl
        where
          by_test : (t : Bool) → in_box ns i ≡ t → at new i ≡ at old i
          by_test true h =
              let here : place (row_in i) 0 ≡ place_of layout.offset layout.strides i = ap (place (row_in i)) (sym none) ∙ in_lane on by i h in
              rw h (ap (stored_at new) (sym here) ∙ (start_kept apart (row_in i) (row_below on by i h) ∙ ap (stored_at old) here))
          by_test false h = rw h refl

      pub axis_holds : KeepsApart layout → HoldsAll old layout.offset ns layout.strides → HoldsAll new layout.offset ns layout.strides
      axis_holds apart holds i h = by_coordinate (get_or i a 0) refl
        where
          by_coordinate : (k : ℕ) → get_or i a 0 ≡ k → names_place new (place_of layout.offset layout.strides i) ≡ true
          by_coordinate zero e =
              let here : place (row_in i) 0 ≡ place_of layout.offset layout.strides i = ap (place (row_in i)) (sym e) ∙ in_lane on by i h in
              ap (names_place new) (sym here) ∙ (ap is_some (start_kept apart (row_in i) (row_below on by i h)) ∙ (ap (names_place old) here ∙ holds i h))
          by_coordinate (suc k) e =
              let under = coordinate_below ns i a h on in
              let low : k < w = omega (arith, under, e, long) in
              let r = row_in i in
              let on_r = row_below on by i h in
              let pairs = done.pairs in
              let lane = done.lane in
              let column = done.column in
              let here : place r (suc k) ≡ place_of layout.offset layout.strides i = ap (place r) (sym e) ∙ in_lane on by i h in
              let call = ran_at (λ p j q. ChangesAfter g (stored_at new (place (lane j) (column j))) (stored_at old (place (lane j) (suc (column j)))) (stored_at new (place (lane j) (suc (column j)))) p q) f last done.all (done.number r k) (pairs.below r k on_r low) done.calls in
              ap (names_place new) (sym here) ∙ (sym (λ j. names_place new (place (pairs.lane_is r k on_r low j) (suc (pairs.column_is r k on_r low j)))) ∙ ap is_some call.2.5)

      pub axis_others : OthersStay (λ i. inside ns i (place_number (place_of layout.offset layout.strides i))) old new
      axis_others = others_stayed by old new (λ p nowhere. done.left p (λ r j below under e. nowhere r (suc j) (row r below) (column_of (suc j) (omega (arith, under))) e))

-- where the closure leaves what h gives of both and stays as it is, so does each call
module _ {F A : Type 0} (g : Mut F (Bor A × (MutBor A × Unit {0})) (Unit {0} × (MutBor A × Unit {0}))) (ns : List ℕ) (a : ℕ) (on : a < length ns) (old new : List ℕ → Option A) (f : F) where
  both_none : (h : A → A → A) (o : Option A) → option_both h o None ≡ None
  both_none h None = refl
  both_none h (Some x) = refl

  pub axis_settled : ((i : List ℕ) → in_box ns i ≡ false → new i ≡ None) → ((i : List ℕ) → in_box ns i ≡ false → old i ≡ None) → AccumulatesAll g ns a old new f → (h : A → A → A) → AccumulatesBy g h f → AreAccumulatedBy h a old new
  axis_settled nothing none visits h by i = by_box (in_box ns (next_index a i)) refl
    where
      does : (j : List ℕ) (q : F) → in_box (set ns a (get_or ns a 0 - 1)) j ≡ true → ChangesAfter g (new j) (old (next_index a j)) (new (next_index a j)) f q → (q ≡ f) × (new (next_index a j) ≡ option_both h (new j) (old (next_index a j)))
      does j q inbox call = let gives = by call.0 call.1 call.2 q call.6 in (gives.0, call.5 ∙ (ap Some gives.1 ∙ (λ t. option_both h (sym call.3 t) (sym call.4 t))))

      by_box : (b : Bool) → in_box ns (next_index a i) ≡ b → new (next_index a i) ≡ option_both h (new i) (old (next_index a i))
      by_box false e = nothing (next_index a i) e ∙ (sym (both_none h (new i)) ∙ ap (option_both h (new i)) (sym (none (next_index a i) e)))
      by_box true e =
          let under = coordinate_below ns (next_index a i) a e on in
          let as_long = length-in_box ns (next_index a i) e in
          let same_long = length-set i a (get_or i a 0 + 1) in
          let on_i : a < length i = omega (arith, on, as_long, same_long) in
          let above = get_or-set_same i a (get_or i a 0 + 1) 0 on_i in
          let back : set (next_index a i) a (get_or i a 0) ≡ i = set-set i a (get_or i a 0 + 1) (get_or i a 0) ∙ set-get_or i a 0 in
          let inside : in_box (set ns a (get_or ns a 0 - 1)) i ≡ true = subst (λ j. in_box (set ns a (get_or ns a 0 - 1)) j ≡ true) back (in_box-set ns (next_index a i) a (get_or ns a 0 - 1) (get_or i a 0) e (omega (arith, under, above))) in
          done_at_each (set ns a (get_or ns a 0 - 1)) (λ p j q. ChangesAfter g (new j) (old (next_index a j)) (new (next_index a j)) p q) f (λ j. new (next_index a j) ≡ option_both h (new j) (old (next_index a j))) does visits.1.0 visits.1.1 visits.0 visits.1.3 i inside

  -- lanes without elements have no call
  pub axis_without : get_or ns a 0 ≡ 0 → (at : List ℕ → Option A) → AccumulatesAll g ns a at at f
  axis_without none at =
      let empty : get_or ns a 0 - 1 ≡ 0 = omega (arith, none) in
      let no_number : size_of (set ns a 1) * 0 ≡ 0 = omega arith in (
        f,
        (
          [],
          subst (λ v. ListsBox (set ns a v) []) (sym empty) (subst (λ n. ListsBox (set ns a 0) (listed (index_of_number ns a on 0 (by_lanes (size_of (set ns a 1)) 0)) n)) no_number (listed_all (lane_numbers ns a on 0 (by_lanes (size_of (set ns a 1)) 0)))),
          (λ m k i found. absurd (let never : None ≡ Some i = found in cc)),
          refl,
        ),
      )

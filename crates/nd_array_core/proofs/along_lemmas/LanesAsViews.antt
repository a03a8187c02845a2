-- Lanes that are shown to closures: they are layouts with one axis, and show what lies along the array's axis.
use Rattle.nd_array_core.proofs.NamesFromOtherCrates.{◌≡◌, ℕ, zero, suc, ◌-◌, ◌*◌, ◌<◌, ◌^◌, ◌∙◌, true, List, [], ◌∷◌, ◌++◌, add-one, get_or, ℤ, pos, negsuc, ◌+ℤ◌, ◌*ℤ◌, nat_abs, refl, ap, sym, subst, arith, Option, Some, is_some, map, nat_tests, fun_ext, Mut, insert, filter_map, range_with_len, map-range_with_len_more, filter_map-append, flat_map_single, option_map, in_box, nonzero_product, place_of, span_of, sums, zero-mul, abs-mul, is_place, IsValid, indexed_shape, shown_by, collected, stored_along, stored_at, HoldsAll, Meaning, inside, row_major_elements, collected_alike, lane_coordinate, seen_inside}
use Rattle.nd_array_core.specs.declared.along.lane_view.LaneView.{LaneView}
use Rattle.nd_array_core.specs.along.AxisFolds.{lane_at, lane_elements}
use Rattle.nd_array_core.specs.along.AxisMaps.{lane_of, lanes_of, lane_seen, AnswersLane, AnswersLanesBy}

-- a place is a number below the bound
is_number : (z : ℤ) → is_place z ≡ true → (q : ℕ) × (z ≡ pos q) × (q < 2 ^ 63)
is_number (pos q) is = (q, refl, grind (arith, nat_tests, is))
is_number (negsuc q) is = absurd cc

-- two places are less than the bound apart
apart_below : (p : ℕ) (z : ℤ) → is_place (pos p) ≡ true → is_place (pos p +ℤ z) ≡ true → nat_abs z < 2 ^ 63
apart_below p (pos n) from to = let w = is_number (pos p +ℤ pos n) to in let e = w.1 in let b = w.2 in omega (arith, sums, e, b)
apart_below p (negsuc n) from to =
    let w = is_number (pos p +ℤ negsuc n) to in
    let e = w.1 in
    let b = (is_number (pos p) from) in
    let same = b.1 in
    let low = b.2 in
    omega (arith, sums, e, same, low)

-- a lane is a layout with one axis
pub lane_is_valid : (place count : ℕ) (stride : ℤ) → count < 2 ^ 63 → ((k : ℕ) → k < count → is_place (pos place +ℤ (pos k *ℤ stride)) ≡ true) → IsValid place (count ∷ []) (stride ∷ [])
lane_is_valid place count stride few reach = record {
  as_many = refl;
  spread = spread count reach;
  checked = checked count few;
  reach = reaches;
}
  where
    first : (n : ℕ) → ((k : ℕ) → k < suc n → is_place (pos place +ℤ (pos k *ℤ stride)) ≡ true) → is_place (pos place) ≡ true
    first n to =
        let none = zero-mul stride in
        let e : pos place +ℤ (pos 0 *ℤ stride) ≡ pos place = omega (arith, sums, none) in
        ap is_place (sym e) ∙ to 0 (omega arith)

    spread : (n : ℕ) → ((k : ℕ) → k < n → is_place (pos place +ℤ (pos k *ℤ stride)) ≡ true) → span_of (n ∷ []) (stride ∷ []) < 2 ^ 63
    spread zero to = let e : (0 - 1) * nat_abs stride ≡ 0 = omega arith in omega (arith, e)
    spread (suc n) to =
        let far = apart_below place (pos n *ℤ stride) (first n to) (to n (omega arith)) in
        let is = abs-mul n stride in
        let e : suc n - 1 ≡ n = omega arith in
        rw e (omega (arith, far, is))

    checked : (n : ℕ) → n < 2 ^ 63 → nonzero_product (n ∷ []) < 2 ^ 63
    checked zero low = omega arith
    checked (suc n) low = omega (arith, low)

    reaches : (i : List ℕ) → in_box (count ∷ []) i ≡ true → is_place (place_of place (stride ∷ []) i) ≡ true
    reaches [] inbox = absurd cc
    reaches (k ∷ []) inbox =
        let below : k < count = grind (arith, nat_tests, inbox) in
        let e : place_of place (stride ∷ []) (k ∷ []) ≡ pos place +ℤ (pos k *ℤ stride) = omega (arith, sums) in
        ap is_place e ∙ reach k below
    reaches (k ∷ j ∷ js) inbox = absurd (grind (arith, nat_tests, inbox))

-- an array over the layout of a lane: where it lies, and what it shows
module _ {A : Type 0} (stored : ℕ → Option A) (offset : ℕ) (ns : List ℕ) (ss : List ℤ) (place count : ℕ) (stride : ℤ) (from : offset ≡ place) (long : ns ≡ count ∷ []) (apart : ss ≡ stride ∷ []) where
  lane_goes_by : (k : List ℕ) → in_box (count ∷ []) k ≡ true → place_of offset ss k ≡ pos place +ℤ (pos (get_or k 0 0) *ℤ stride)
  lane_goes_by k inbox = (λ i. place_of (from i) (apart i) k) ∙ along k inbox
    where
      along : (k : List ℕ) → in_box (count ∷ []) k ≡ true → place_of place (stride ∷ []) k ≡ pos place +ℤ (pos (get_or k 0 0) *ℤ stride)
      along [] inbox = absurd cc
      along (j ∷ []) inbox = omega (arith, sums)
      along (j ∷ l ∷ ls) inbox = absurd (grind (arith, nat_tests, inbox))

  pub lane_inside : ((k : ℕ) → k < count → is_some (stored_along stored place stride k) ≡ true) → HoldsAll stored offset ns ss
  lane_inside holds k inbox =
      let within : in_box (count ∷ []) k ≡ true = subst (λ ls. in_box ls k ≡ true) long inbox in
      ap (λ z. is_some (stored_at stored z)) (lane_goes_by k within) ∙ holds (get_or k 0 0) (lane_coordinate count k within)

  pub lane_shows : ◌≡◌ {A = Meaning A} (record { shape = ns; at = λ k. inside ns k (stored_at stored (place_of offset ss k)) }) (record { shape = count ∷ []; at = λ k. inside (count ∷ []) k (stored_along stored place stride (get_or k 0 0)) })
  lane_shows = λ i. record { shape = long i; at = shows i }
    where
      shows : ◌≡◌ {A = List ℕ → Option A} (λ k. inside ns k (stored_at stored (place_of offset ss k))) (λ k. inside (count ∷ []) k (stored_along stored place stride (get_or k 0 0)))
      shows = fun_ext (λ k. (λ i. inside (long i) k (stored_at stored (place_of offset ss k))) ∙ seen_inside (count ∷ []) k (stored_at stored (place_of offset ss k)) (stored_along stored place stride (get_or k 0 0)) (λ within. ap (stored_at stored) (lane_goes_by k within)))

module _ {A : Type 0} (m : Meaning A) (a : ℕ) (o : List ℕ) where
  -- a lane that lies along the axis shows what the array has there
  pub lane_met : in_box (indexed_shape m.shape a) o ≡ true → (v : LaneView A) → v.lane.count ≡ get_or m.shape a 0 → ((k : ℕ) → k < v.lane.count → stored_along (shown_by v.storage) v.lane.place v.lane.stride k ≡ m.at (insert o a k)) → (lanes_of m a).at o ≡ Some (lane_seen v)
  unfolding lane_seen
  lane_met inbox v long along =
      let same : lane_of m a o ≡ lane_seen v = λ i. record { shape = sym long i ∷ []; at = shows i } in
      rw inbox (ap Some same)
    where
      shows : ◌≡◌ {A = List ℕ → Option A} (λ k. inside (get_or m.shape a 0 ∷ []) k (m.at (insert o a (get_or k 0 0)))) (λ k. inside (v.lane.count ∷ []) k (stored_along (shown_by v.storage) v.lane.place v.lane.stride (get_or k 0 0)))
      shows = fun_ext (λ k. (λ i. inside (sym long i ∷ []) k (m.at (insert o a (get_or k 0 0)))) ∙ seen_inside (v.lane.count ∷ []) k (m.at (insert o a (get_or k 0 0))) (stored_along (shown_by v.storage) v.lane.place v.lane.stride (get_or k 0 0)) (λ within. sym (along (get_or k 0 0) (lane_coordinate v.lane.count k within))))

-- an answer that is what h gives
pub lane_by : {F A B : Type 0} (g : Mut F (LaneView A × Unit {0}) B) (h : Meaning A → B) (f : F) → AnswersLanesBy g h f → (o : Option (Meaning A)) (y : B) (q : F) → AnswersLane g f o y q → (q ≡ f) × (Some y ≡ option_map h o)
lane_by g h f by o y q call = let gives = by call.0 y q call.2 in (gives.0, ap Some gives.1 ∙ ap (option_map h) (sym call.1))

-- the elements of one axis, in row-major order, are those by rising coordinate
pub line_listed : {A : Type 0} (at : List ℕ → Option A) (n : ℕ) → filter_map at (map (λ k. k ∷ []) (range_with_len 0 n)) ≡ collected (λ k. at (k ∷ [])) n
line_listed at zero = refl
line_listed at (suc n) =
    let more : map (λ k. k ∷ []) (range_with_len 0 (suc n)) ≡ map (λ k. k ∷ []) (range_with_len 0 n) ++ (n ∷ []) ∷ [] = rw (add-one n) at (map-range_with_len_more (λ k. k ∷ []) 0 n n (omega arith)) in
    ap (filter_map at) more ∙ (filter_map-append at (map (λ k. k ∷ []) (range_with_len 0 n)) ((n ∷ []) ∷ []) ∙ ap (λ xs. xs ++ filter_map at ((n ∷ []) ∷ [])) (line_listed at n))

-- so are those of a lane
pub lane_listed : {A : Type 0} (m : Meaning A) (a : ℕ) (i : List ℕ) → row_major_elements (lane_of m a i) ≡ lane_elements m.at a (get_or m.shape a 0) i
lane_listed m a i =
    let n = get_or m.shape a 0 in
    ap (filter_map (lane_of m a i).at) (flat_map_single (λ k. k ∷ []) (range_with_len 0 n))
    ∙ (line_listed (lane_of m a i).at n
    ∙ collected_alike (λ k. (lane_of m a i).at (k ∷ [])) (lane_at m.at a i) n (λ k under. rw (in_line n k under) refl))
  where
    in_line : (n k : ℕ) → k < n → in_box (n ∷ []) (k ∷ []) ≡ true
    in_line n k under = grind (arith, nat_tests, under)

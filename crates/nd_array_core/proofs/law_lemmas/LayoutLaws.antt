-- The laws of layout calls.
use Rattle.nd_array_core.proofs.NamesFromOtherCrates.{◌≡◌, ℕ, zero, suc, ◌+◌, ◌-◌, ◌<◌, ◌≤◌, Bool, true, false, not, ◌||◌, cond, eqb, ltb, List, [], ◌∷◌, length, map, reverse, replicate, get_or, set, ℤ, pos, refl, ap, sym, ◌∙◌, subst, arith, ⊎_elim, Option, None, is_some, if◌then◌else◌, insert, remove, swap, position_or_len, range_with_len, fun_ext, and_parts, and_from, lt-ltb, ltb-true, eqb-true, eq-eqb, ne_eqb, cases_eq, cases_lt, length-set, length-replicate, get_or-map, get_or-replicate, get_or_past, ext_get_or, get_or-set_same, set-get_or, set-set, reverse-reverse, length-insert, get_or-insert_at, length-range_with_len, get_or-range_with_len, length-map-range_with_len, get_or-map-range_with_len, HasEachAxis, permuted_list, unpermuted_list, in_box, fits_axis, low_of, high_of, sliced_length, sliced_from, sliced_shape, sliced_index, coordinate_on, each_fits, shape_after, index_before, Slice, SliceInfoElem, Index, NewAxis, stepped_from-within, unwrap_or, zero-add, length-in_box, coordinate_below, axis_below, length-permuted, length-unpermuted, permuted-unpermuted, unpermuted-permuted, in_box-unpermuted, times, times_is, in_box-inserted, inverted_index, collapsed_shape, collapsed_index, lower_shape, upper_shape, upper_index, indexed_shape, indexed_index, inserted_shape, inserted_index, diagonal_length, diagonal_index, Meaning, inside, broadcasts, broadcast_index, collapsed_after, collapsed_before, isnt_one, all_one, stays, kept_of, spread_over, squeezed_shape, squeezed_index, in_box-set, remove-inserted, once_in_range, in_own_order, reverse_is_step, swap_is_step, slice_within, high_within, step_moves, coordinate_within, length-stays, insert_is_step, diagonal_is_step, broadcast_is_seen}
use Rattle.nd_shape_and_slice.specs.declared.slice_info.SliceInfoElem.TheVariants.{Slice as Part}
use Rattle.nd_array_core.specs.LayoutLaws.{NothingOutside, inverse_of, PermutedBack, ReversedTwice, InvertedTwice, InsertedAndRemoved, twice_sliced_from, SlicedTwice, PathStep, path_shape, path_source, LeadsInside, StaysInside, PathIsOneMap}
use Rattle.nd_array_core.specs.ArrayMeaning.{meaning_through}

-- the inverse of an order of the axes
module _ (axes : List ℕ) (n : ℕ) (each : HasEachAxis axes n) where
  abbrev pub own : List ℕ
  own = range_with_len 0 n

  abbrev pub position_of : ℕ → ℕ
  position_of a = position_or_len (λ b. eqb b a) axes

  own_length : length own ≡ n
  own_length = length-range_with_len 0 n

  own_at : (k : ℕ) → k < n → get_or own k 0 ≡ k
  own_at k h = get_or-range_with_len 0 n k 0 h ∙ zero-add k

  back_at : (xs : List ℕ) (a : ℕ) → a < n → get_or (unpermuted_list axes xs) a 0 ≡ get_or xs (position_of a) 0
  back_at xs a h = get_or-map-range_with_len (λ a. get_or xs (position_or_len (λ b. eqb b a) axes) 0) 0 (length axes) a a 0 (omega (arith, h, each.0)) (omega arith)

  there_at : (xs : List ℕ) (k : ℕ) → k < n → get_or (permuted_list axes xs) k 0 ≡ get_or xs (get_or axes k 0) 0
  there_at xs k h = get_or-map (λ a. get_or xs a 0) axes k 0 0 (omega (arith, h, each.0))

  position_below : (a : ℕ) → a < n → position_of a < n
  position_below a h =
      let ones = replicate n 1 in
      let read = back_at (permuted_list axes ones) a h in
      let whole = ap (λ l. get_or l a 0) (unpermuted-permuted axes ones n each (length-replicate n 1)) ∙ get_or-replicate n a 1 0 h in
      let long = length-permuted axes ones ∙ each.0 in
      ⊎_elim
      (λ (h : position_of a < n). h)
      (λ (past : n ≤ position_of a). let none = get_or_past (permuted_list axes ones) (position_of a) 0 (omega (arith, long, past)) in absurd (omega (arith, read, whole, none)))
      (cases_lt (position_of a) n)

  at_position : (a : ℕ) → a < n → get_or axes (position_of a) 0 ≡ a
  at_position a h =
      let below = position_below a h in
      sym (own_at (get_or axes (position_of a) 0) (axis_below axes n (position_of a) each (omega (arith, below, each.0))))
      ∙ (sym (there_at own (position_of a) below)
      ∙ (sym (back_at (permuted_list axes own) a h) ∙ (ap (λ l. get_or l a 0) (unpermuted-permuted axes own n each own_length) ∙ own_at a h)))

  position_at : (k : ℕ) → k < n → position_of (get_or axes k 0) ≡ k
  position_at k h =
      let a = get_or axes k 0 in
      let below = axis_below axes n k each (omega (arith, h, each.0)) in
      sym (own_at (position_of a) (position_below a below))
      ∙ (sym (back_at own a below)
      ∙ (sym (there_at (unpermuted_list axes own) k h) ∙ (ap (λ l. get_or l k 0) (permuted-unpermuted axes own n each own_length) ∙ own_at k h)))

  inverse_at : (k : ℕ) → k < n → get_or (inverse_of axes) k 0 ≡ position_of k
  inverse_at k h = get_or-map-range_with_len (λ a. position_or_len (λ b. eqb b a) axes) 0 (length axes) k k 0 (omega (arith, h, each.0)) (omega arith)

  same_times : (f : ℕ → ℕ) (a b low k : ℕ) → ((j : ℕ) → j < low + k → eqb (f j) a ≡ eqb j b) → times a (map f (range_with_len low k)) ≡ times b (range_with_len low k)
  same_times f a b low zero same = refl
  same_times f a b low (suc k) same =
      rw (same low (omega arith)) (ap (λ t. cond (eqb low b) 1 0 + t) (same_times f a b (low + 1) k (λ j h. same j (omega (arith, h)))))

  pub inverse_each : HasEachAxis (inverse_of axes) n
  inverse_each = (
    length-map-range_with_len (λ a. position_or_len (λ b. eqb b a) axes) 0 (length axes) ∙ each.0,
    λ a h.
        let b = get_or axes a 0 in
        let b_below = axis_below axes n a each (omega (arith, h, each.0)) in
        times_is a (inverse_of axes)
        ∙ (same_times (λ a. position_or_len (λ b. eqb b a) axes) a b 0 (length axes) (λ j lt. agree j a h (omega (arith, lt, each.0)))
        ∙ once_in_range b 0 (length axes) (omega arith) (omega (arith, b_below, each.0))),
  )
    where
      agree : (j a : ℕ) → a < n → j < n → eqb (position_or_len (λ b. eqb b j) axes) a ≡ eqb j (get_or axes a 0)
      agree j a ha hj =
          ⊎_elim
          (λ (is : j ≡ get_or axes a 0). eq-eqb (position_of j) a (ap position_of is ∙ position_at a ha) ∙ sym (eq-eqb j (get_or axes a 0) is))
          (λ (other : j ≡ get_or axes a 0 → ⊥). ne_eqb (position_of j) a (λ same. other (sym (at_position j hj) ∙ ap (λ q. get_or axes q 0) same)) ∙ sym (ne_eqb j (get_or axes a 0) other))
          (cases_eq j (get_or axes a 0))

  pub inverse_leads : permuted_list (inverse_of axes) axes ≡ range_with_len 0 n
  inverse_leads =
      let long = length-permuted (inverse_of axes) axes ∙ inverse_each.0 in
      ext_get_or 0 (permuted_list (inverse_of axes) axes) own (long ∙ sym own_length)
      (λ k h.
      let below : k < n = omega (arith, h, long) in
      get_or-map (λ a. get_or axes a 0) (inverse_of axes) k 0 0 (omega (arith, below, inverse_each.0))
      ∙ (ap (λ q. get_or axes q 0) (inverse_at k below) ∙ (at_position k below ∙ sym (own_at k below))))

-- axes in another order and back
module _ (axes back : List ℕ) (n : ℕ) (each : HasEachAxis axes n) (each_back : HasEachAxis back n) (leads : permuted_list back axes ≡ range_with_len 0 n) where
  there_and_back : (xs : List ℕ) → length xs ≡ n → permuted_list back (permuted_list axes xs) ≡ xs
  there_and_back xs e =
      composed back (λ k h. axis_below back n k each_back h)
      ∙ (ap (λ p. permuted_list p xs) leads ∙ subst (λ l. permuted_list (range_with_len 0 l) xs ≡ xs) e (in_own_order 0 xs))
    where
      composed : (ks : List ℕ) → ((k : ℕ) → k < length ks → get_or ks k 0 < n) → permuted_list ks (permuted_list axes xs) ≡ permuted_list (permuted_list ks axes) xs
      composed [] below = refl
      composed (a ∷ ks) below =
          let here : a < length axes = let lt = below 0 (omega arith) in omega (arith, lt, each.0) in
          let first = get_or-map (λ b. get_or xs b 0) axes a 0 0 here in
          let rest = composed ks (λ k h. below (suc k) (omega (arith, h))) in
          rw (first, rest) refl

  back_and_there : (i : List ℕ) → length i ≡ n → unpermuted_list axes (unpermuted_list back i) ≡ i
  back_and_there i e =
      let j = unpermuted_list back i in
      let x = unpermuted_list axes j in
      let j_long : length j ≡ n = length-unpermuted back i ∙ each_back.0 in
      let x_long : length x ≡ n = length-unpermuted axes j ∙ each.0 in
      sym (there_and_back x x_long) ∙ (ap (permuted_list back) (permuted-unpermuted axes j n each j_long) ∙ permuted-unpermuted back i n each_back e)

-- a path leads inside
pub path_inside : (ns : List ℕ) (steps : List PathStep) (i : List ℕ) → StaysInside ns steps → in_box (path_shape ns steps) i ≡ true → in_box ns (path_source steps i) ≡ true
path_inside ns [] i stays h = h
path_inside ns (p ∷ ps) i stays h = stays.0 (path_source ps i) (path_inside p.new_shape ps i stays.1 h)

module _ {A : Type 0} where
  pub same_meaning : (m : Meaning A) (shape : List ℕ) (at : List ℕ → Option A) → shape ≡ m.shape → ((i : List ℕ) → at i ≡ m.at i) → (let n : Meaning A = record { shape = shape; at = at } in n) ≡ m
  same_meaning m shape at e h = rw (fun_ext h, e) refl

  -- what is seen, where each new index names an old one
  pub inside_here : (ns i : List ℕ) (x y : Option A) → (in_box ns i ≡ true → x ≡ y) → inside ns i x ≡ inside ns i y
  inside_here ns i x y same = at (in_box ns i) same
    where
      at : (b : Bool) → (b ≡ true → x ≡ y) → cond b x None ≡ cond b y None
      at true same = same refl
      at false same = refl

  pub inside_kept : (ns i : List ℕ) (x : Option A) → (in_box ns i ≡ false → x ≡ None) → inside ns i x ≡ x
  inside_kept ns i x nothing = at (in_box ns i) nothing
    where
      at : (b : Bool) → (b ≡ false → x ≡ None) → cond b x None ≡ x
      at true nothing = refl
      at false nothing = sym (nothing refl)

  pub inside_box : (ns i : List ℕ) (x : Option A) → in_box ns i ≡ true → inside ns i x ≡ x
  inside_box ns i x h = rw h refl

  -- two maps, the second of which leads into the box of the first
  pub seen_twice : (m : Meaning A) (mid : List ℕ) (f : List ℕ → List ℕ) (shape : List ℕ) (g source : List ℕ → List ℕ) → ((i : List ℕ) → in_box shape i ≡ true → in_box mid (g i) ≡ true) → ((i : List ℕ) → in_box shape i ≡ true → f (g i) ≡ source i) → meaning_through shape g (meaning_through mid f m) ≡ meaning_through shape source m
  seen_twice m mid f shape g source within same =
      same_meaning (meaning_through shape source m) shape (λ i. inside shape i (inside mid (g i) (m.at (f (g i))))) refl
      (λ i. inside_here shape i (inside mid (g i) (m.at (f (g i)))) (m.at (source i)) (λ h. inside_box mid (g i) (m.at (f (g i))) (within i h) ∙ ap m.at (same i h)))

  -- the map that leads nowhere else
  pub seen_same : (m : Meaning A) (shape : List ℕ) → NothingOutside m → shape ≡ m.shape → meaning_through shape (λ i. i) m ≡ m
  seen_same m shape nothing e =
      same_meaning m shape (λ i. inside shape i (m.at i)) e (λ i. ap (λ l. inside l i (m.at i)) e ∙ inside_kept m.shape i (m.at i) (nothing i))

  pub seen_back : (m : Meaning A) (mid : List ℕ) (f : List ℕ → List ℕ) (shape : List ℕ) (g : List ℕ → List ℕ) → NothingOutside m → shape ≡ m.shape → ((i : List ℕ) → in_box m.shape i ≡ true → in_box mid (g i) ≡ true) → ((i : List ℕ) → in_box m.shape i ≡ true → f (g i) ≡ i) → meaning_through shape g (meaning_through mid f m) ≡ m
  seen_back m mid f shape g nothing e within same =
      seen_twice m mid f shape g (λ i. i) (λ i h. within i (subst (λ l. in_box l i ≡ true) e h)) (λ i h. same i (subst (λ l. in_box l i ≡ true) e h))
      ∙ seen_same m shape nothing e

  -- ---- axes in another order and back
  pub permuted_back : PermutedBack A
  permuted_back m axes nothing each =
      let n = length m.shape in
      let back = inverse_of axes in
      let each_back = inverse_each axes n each in
      let leads = inverse_leads axes n each in
      let mid = permuted_list axes m.shape in
      let mid_long : length mid ≡ n = length-permuted axes m.shape ∙ each.0 in
      let restored : permuted_list back mid ≡ m.shape = there_and_back axes back n each each_back leads m.shape refl in
      seen_back m mid (unpermuted_list axes) (permuted_list back mid) (unpermuted_list back) nothing restored
      (λ i h. in_box-unpermuted back mid i (subst (HasEachAxis back) (sym mid_long) each_back) (length-in_box m.shape i h ∙ sym mid_long) ∙ (ap (λ l. in_box l i) restored ∙ h))
      (λ i h. back_and_there axes back n each each_back leads i (length-in_box m.shape i h))

  -- ---- axes reversed twice
  pub reversed_twice : ReversedTwice A
  reversed_twice m nothing =
      let mid = reverse m.shape in
      let step = reverse_is_step 0 mid (replicate (length mid) (pos 0)) (length-replicate (length mid) (pos 0)) in
      seen_back m mid reverse (reverse mid) reverse nothing (reverse-reverse m.shape)
      (λ i h. step.within i (ap (λ l. in_box l i) (reverse-reverse m.shape) ∙ h))
      (λ i h. reverse-reverse i)

  -- ---- an axis inverted twice
  pub inverted_twice : InvertedTwice A
  inverted_twice m a nothing on =
      seen_back m m.shape (inverted_index m.shape a) m.shape (inverted_index m.shape a) nothing refl
      (λ i h.
      let c = get_or i a 0 in
      let n = get_or m.shape a 0 in
      let below = coordinate_below m.shape i a h on in
      subst (λ l. in_box l (set i a (n - 1 - c)) ≡ true) (set-get_or m.shape a 0) (in_box-set m.shape i a n (n - 1 - c) h (omega (arith, below))))
      (λ i h.
      let c = get_or i a 0 in
      let n = get_or m.shape a 0 in
      let below = coordinate_below m.shape i a h on in
      let here : a < length i = omega (arith, length-in_box m.shape i h, on) in
      let again : n - 1 - (n - 1 - c) ≡ c = omega (arith, below) in
      set-set i a (n - 1 - c) (n - 1 - get_or (set i a (n - 1 - c)) a 0)
      ∙ (ap (λ k. set i a (n - 1 - k)) (get_or-set_same i a (n - 1 - c) 0 here) ∙ (ap (set i a) again ∙ set-get_or i a 0)))

  -- ---- an axis inserted and removed
  pub inserted_and_removed : InsertedAndRemoved A
  inserted_and_removed m a nothing on =
      let mid = insert m.shape a 1 in
      let gone = remove-inserted m.shape a 1 on in
      let long = length-insert m.shape a 1 on in
      seen_back m mid (inserted_index a) (remove mid a) (λ i. insert i a 0) nothing gone
      (λ i h.
      in_box-inserted mid i a 0 (omega (arith, long, on))
      ∙ and_from (ltb 0 (get_or mid a 0)) (in_box (remove mid a) i)
      (lt-ltb 0 (get_or mid a 0) (omega (arith, get_or-insert_at m.shape a 1 0 on)))
      (ap (λ l. in_box l i) gone ∙ h))
      (λ i h. remove-inserted i a 0 (omega (arith, length-in_box m.shape i h, on)))

  -- ---- two slices of one axis
  pub sliced_twice : SlicedTwice A
  sliced_twice m a first second on fits again =
      let n = get_or m.shape a 0 in
      let mid = sliced_shape m.shape a first in
      let here : get_or mid a 0 ≡ sliced_length n first = get_or-set_same m.shape a (sliced_length n first) 0 on in
      let on_mid : a < length mid = let long = length-set m.shape a (sliced_length n first) in omega (arith, long, on) in
      let fits_mid : fits_axis (get_or mid a 0) second ≡ true = ap (λ k. fits_axis k second) here ∙ again in
      let shape : sliced_shape mid a second ≡ set m.shape a (sliced_length (sliced_length n first) second) =
      ap (λ k. set mid a (sliced_length k second)) here ∙ set-set m.shape a (sliced_length n first) (sliced_length (sliced_length n first) second) in
      let twice = seen_twice m mid (sliced_index m.shape a first) (sliced_shape mid a second) (sliced_index mid a second) (λ i. set i a (twice_sliced_from n first second (get_or i a 0)))
      (λ i h. slice_within mid (replicate (length mid) (pos 0)) a second (length-replicate (length mid) (pos 0)) on_mid fits_mid i h)
      (λ i h.
      let c = get_or i a 0 in
      let wide : a < length i = let long = length-set mid a (sliced_length (get_or mid a 0) second) in omega (arith, length-in_box (sliced_shape mid a second) i h, long, on_mid) in
      let d = sliced_from (get_or mid a 0) second c in
      set-set i a d (sliced_from n first (get_or (set i a d) a 0))
      ∙ (ap (λ k. set i a (sliced_from n first k)) (get_or-set_same i a d 0 wide) ∙ ap (λ k. set i a (sliced_from n first (sliced_from k second c))) here)) in
      twice ∙ ap (λ l. meaning_through l (λ i. set i a (twice_sliced_from n first second (get_or i a 0))) m) shape

  -- ---- paths
  nothing_seen : (shape : List ℕ) (source : List ℕ → List ℕ) (m : Meaning A) → NothingOutside (meaning_through shape source m)
  nothing_seen shape source m i h = rw h refl

  pub path_is_one_map : PathIsOneMap A
  path_is_one_map m [] nothing stays = sym (seen_same m m.shape nothing refl)
  path_is_one_map m (p ∷ ps) nothing stays =
      path_is_one_map (meaning_through p.new_shape p.old_index m) ps (nothing_seen p.new_shape p.old_index m) stays.1
      ∙ seen_twice m p.new_shape p.old_index (path_shape p.new_shape ps) (path_source ps) (λ i. p.old_index (path_source ps i))
      (λ i h. path_inside p.new_shape ps i stays.1 h) (λ i h. refl)

-- ---- each call's map leads inside
zeros : List ℕ → List ℤ
zeros ns = replicate (length ns) (pos 0)

as_many : (ns : List ℕ) → length (zeros ns) ≡ length ns
unfolding zeros
as_many ns = length-replicate (length ns) (pos 0)

pub sliced_inside : (ns : List ℕ) (a : ℕ) (s : Slice) → a < length ns → fits_axis (get_or ns a 0) s ≡ true → LeadsInside (sliced_shape ns a s) (sliced_index ns a s) ns
sliced_inside ns a s on fits i h = slice_within ns (zeros ns) a s (as_many ns) on fits i h

pub permuted_inside : (ns axes : List ℕ) → HasEachAxis axes (length ns) → LeadsInside (permuted_list axes ns) (unpermuted_list axes) ns
permuted_inside ns axes each i h = in_box-unpermuted axes ns i each (length-in_box (permuted_list axes ns) i h ∙ (length-permuted axes ns ∙ each.0)) ∙ h

pub reversed_inside : (ns : List ℕ) → LeadsInside (reverse ns) reverse ns
reversed_inside ns = (reverse_is_step 0 ns (zeros ns) (as_many ns)).within

-- the element at a row and a column, seen through the transpose: both boxes have the same bounds
seen_by : {A : Type 0} (x : Option A) (new old : Bool) → (old ≡ true → new ≡ true) → (if new then (if old then x else None) else None) ≡ (if old then x else None)
seen_by x true old leads = refl
seen_by x false true leads = absurd (cc (leads refl))
seen_by x false false leads = refl

pub transposed_pair : {A : Type 0} (ns : List ℕ) (row column : ℕ) (x : Option A) → inside (reverse ns) (row ∷ column ∷ []) (inside ns (column ∷ row ∷ []) x) ≡ inside ns (column ∷ row ∷ []) x
transposed_pair ns row column x =
    seen_by x (in_box (reverse ns) (row ∷ column ∷ [])) (in_box ns (column ∷ row ∷ []))
    (λ h. reversed_inside (reverse ns) (column ∷ row ∷ []) (ap (λ l. in_box l (column ∷ row ∷ [])) (reverse-reverse ns) ∙ h))

pub swapped_inside : (ns : List ℕ) (a b : ℕ) → a < length ns → b < length ns → LeadsInside (swap ns a b) (λ i. swap i a b) ns
swapped_inside ns a b on_a on_b = (swap_is_step 0 ns (zeros ns) a b (as_many ns) on_a on_b).within

changed_inside : (ns i : List ℕ) (a m k : ℕ) → k < get_or ns a 0 → in_box (set ns a m) i ≡ true → in_box ns (set i a k) ≡ true
changed_inside ns i a m k below h =
    subst (λ l. in_box l (set i a k) ≡ true) (set-set ns a m (get_or ns a 0) ∙ set-get_or ns a 0) (in_box-set (set ns a m) i a (get_or ns a 0) k h below)

pub coordinate_at : (ns i : List ℕ) (a m : ℕ) → a < length ns → in_box (set ns a m) i ≡ true → get_or i a 0 < m
coordinate_at ns i a m on h =
    let long = length-set ns a m in
    subst (λ n. get_or i a 0 < n) (get_or-set_same ns a m 0 on) (coordinate_below (set ns a m) i a h (omega (arith, long, on)))

pub inverted_inside : (ns : List ℕ) (a : ℕ) → a < length ns → LeadsInside ns (inverted_index ns a) ns
inverted_inside ns a on i h =
    let below = coordinate_below ns i a h on in
    changed_inside ns i a (get_or ns a 0) (get_or ns a 0 - 1 - get_or i a 0) (omega (arith, below)) (subst (λ l. in_box l i ≡ true) (sym (set-get_or ns a 0)) h)

pub collapsed_inside : (ns : List ℕ) (a k : ℕ) → k < get_or ns a 0 → LeadsInside (collapsed_shape ns a) (collapsed_index a k) ns
collapsed_inside ns a k below i h = changed_inside ns i a 1 k below h

pub lower_inside : (ns : List ℕ) (a k : ℕ) → a < length ns → k ≤ get_or ns a 0 → LeadsInside (lower_shape ns a k) (λ i. i) ns
lower_inside ns a k on within i h =
    let below = coordinate_at ns i a k on h in
    subst (λ j. in_box ns j ≡ true) (set-get_or i a 0) (changed_inside ns i a k (get_or i a 0) (omega (arith, below, within)) h)

pub upper_inside : (ns : List ℕ) (a k : ℕ) → a < length ns → k ≤ get_or ns a 0 → LeadsInside (upper_shape ns a k) (upper_index a k) ns
upper_inside ns a k on within i h =
    let below = coordinate_at ns i a (get_or ns a 0 - k) on h in
    changed_inside ns i a (get_or ns a 0 - k) (get_or i a 0 + k) (omega (arith, below, within)) h

pub indexed_inside : (ns : List ℕ) (a k : ℕ) → a < length ns → k < get_or ns a 0 → LeadsInside (indexed_shape ns a) (indexed_index a k) ns
indexed_inside ns a k on below i h = in_box-inserted ns i a k on ∙ and_from (ltb k (get_or ns a 0)) (in_box (remove ns a) i) (lt-ltb k (get_or ns a 0) below) h

pub inserted_inside : (ns : List ℕ) (a : ℕ) → a ≤ length ns → LeadsInside (inserted_shape ns a) (inserted_index a) ns
inserted_inside ns a on = (insert_is_step ns (zeros ns) a (as_many ns) on 0 (pos 0)).within

pub diagonal_inside : (ns : List ℕ) → LeadsInside (diagonal_length ns ∷ []) (diagonal_index ns) ns
diagonal_inside ns = (diagonal_is_step ns (zeros ns) (as_many ns) 0).within

sliced_below : (n : ℕ) (s : Slice) (c : ℕ) → fits_axis n s ≡ true → c < sliced_length n s → sliced_from n s c < n
sliced_below n s c fits below =
    let range = stepped_from-within (low_of n s) (high_of n s) s.step c (step_moves n s fits) below in
    let high = high_within n s in
    omega (arith, range.1, high)

pub listed_inside : (ns : List ℕ) (es : List SliceInfoElem) → each_fits ns es ≡ true → LeadsInside (shape_after ns es) (index_before ns es) ns
listed_inside [] [] fits i h = refl
listed_inside (n ∷ ns) [] fits i h = absurd cc
listed_inside [] (Part start end step ∷ es) fits i h = absurd cc
listed_inside (n ∷ ns) (Part start end step ∷ es) fits [] h = absurd cc
listed_inside (n ∷ ns) (Part start end step ∷ es) fits (i ∷ is) h =
    let s : Slice = record { start = start; end = end; step = step } in
    let fit = and_parts (fits_axis n s) (each_fits ns es) fits in
    let box = and_parts (ltb i (sliced_length n s)) (in_box (shape_after ns es) is) h in
    and_from (ltb (sliced_from n s i) n) (in_box ns (index_before ns es is)) (lt-ltb (sliced_from n s i) n (sliced_below n s i fit.0 (ltb-true i (sliced_length n s) box.0))) (listed_inside ns es fit.1 is box.1)
listed_inside [] (Index k ∷ es) fits i h = absurd cc
listed_inside (n ∷ ns) (Index k ∷ es) fits i h =
    let fit = and_parts (is_some (coordinate_on n k)) (each_fits ns es) fits in
    and_from (ltb (unwrap_or (coordinate_on n k) 0) n) (in_box ns (index_before ns es i)) (lt-ltb (unwrap_or (coordinate_on n k) 0) n (coordinate_within n k fit.0)) (listed_inside ns es fit.1 i h)
listed_inside [] (NewAxis ∷ es) fits [] h = absurd cc
listed_inside (n ∷ ns) (NewAxis ∷ es) fits [] h = absurd cc
listed_inside [] (NewAxis ∷ es) fits (i ∷ is) h = listed_inside [] es fits is (and_parts (ltb i 1) (in_box (shape_after [] es) is) h).1
listed_inside (n ∷ ns) (NewAxis ∷ es) fits (i ∷ is) h = listed_inside (n ∷ ns) es fits is (and_parts (ltb i 1) (in_box (shape_after (n ∷ ns) es) is) h).1

pub collapsed_list_inside : (ns : List ℕ) (es : List SliceInfoElem) → each_fits ns es ≡ true → LeadsInside (collapsed_after ns es) (collapsed_before ns es) ns
collapsed_list_inside [] [] fits i h = h
collapsed_list_inside (n ∷ ns) [] fits i h = absurd cc
collapsed_list_inside [] (Part start end step ∷ es) fits i h = absurd cc
collapsed_list_inside (n ∷ ns) (Part start end step ∷ es) fits [] h = absurd cc
collapsed_list_inside (n ∷ ns) (Part start end step ∷ es) fits (i ∷ is) h =
    let s : Slice = record { start = start; end = end; step = step } in
    let fit = and_parts (fits_axis n s) (each_fits ns es) fits in
    let box = and_parts (ltb i (sliced_length n s)) (in_box (collapsed_after ns es) is) h in
    and_from (ltb (sliced_from n s i) n) (in_box ns (collapsed_before ns es is)) (lt-ltb (sliced_from n s i) n (sliced_below n s i fit.0 (ltb-true i (sliced_length n s) box.0))) (collapsed_list_inside ns es fit.1 is box.1)
collapsed_list_inside [] (Index k ∷ es) fits i h = absurd cc
collapsed_list_inside (n ∷ ns) (Index k ∷ es) fits [] h = absurd cc
collapsed_list_inside (n ∷ ns) (Index k ∷ es) fits (i ∷ is) h =
    let fit = and_parts (is_some (coordinate_on n k)) (each_fits ns es) fits in
    let box = and_parts (ltb i 1) (in_box (collapsed_after ns es) is) h in
    and_from (ltb (unwrap_or (coordinate_on n k) 0) n) (in_box ns (collapsed_before ns es is)) (lt-ltb (unwrap_or (coordinate_on n k) 0) n (coordinate_within n k fit.0)) (collapsed_list_inside ns es fit.1 is box.1)
collapsed_list_inside [] (NewAxis ∷ es) fits i h = collapsed_list_inside [] es fits i h
collapsed_list_inside (n ∷ ns) (NewAxis ∷ es) fits i h = collapsed_list_inside (n ∷ ns) es fits i h

-- where each axis that goes has length 1
kept_inside : (bs : List Bool) (ns i : List ℕ) → length bs ≡ length ns → ((k : ℕ) → get_or bs k true ≡ false → get_or ns k 0 ≡ 1) → in_box (kept_of bs ns) i ≡ true → in_box ns (spread_over bs i) ≡ true
kept_inside [] [] i e ones h = refl
kept_inside [] (n ∷ ns) i e ones h = absurd (omega arith)
kept_inside (b ∷ bs) [] i e ones h = absurd (omega arith)
kept_inside (true ∷ bs) (n ∷ ns) [] e ones h = absurd cc
kept_inside (true ∷ bs) (n ∷ ns) (i ∷ is) e ones h =
    let box = and_parts (ltb i n) (in_box (kept_of bs ns) is) h in
    and_from (ltb i n) (in_box ns (spread_over bs is)) box.0 (kept_inside bs ns is (omega (arith, e)) (λ k gone. ones (suc k) gone) box.1)
kept_inside (false ∷ bs) (n ∷ ns) i e ones h =
    and_from (ltb 0 n) (in_box ns (spread_over bs i)) (lt-ltb 0 n (let one = ones 0 refl in omega (arith, one))) (kept_inside bs ns i (omega (arith, e)) (λ k gone. ones (suc k) gone) h)

gone_is_one : (ns : List ℕ) (k : ℕ) → get_or (stays ns) k true ≡ false → get_or ns k 0 ≡ 1
gone_is_one [] k h = absurd cc
gone_is_one (n ∷ ns) zero h = at (eqb n 1) refl h
  where
    at : (b : Bool) → eqb n 1 ≡ b → (not b || all_one ns) ≡ false → n ≡ 1
    at true e h = eqb-true n 1 e
    at false e h = absurd cc
gone_is_one (n ∷ ns) (suc k) h = rest ns k h
  where
    rest : (ns : List ℕ) (k : ℕ) → get_or (map isnt_one ns) k true ≡ false → get_or ns k 0 ≡ 1
    rest [] k h = absurd cc
    rest (n ∷ ns) zero h = at (eqb n 1) refl h
      where
        at : (b : Bool) → eqb n 1 ≡ b → not b ≡ false → n ≡ 1
        at true e h = eqb-true n 1 e
        at false e h = absurd cc
    rest (n ∷ ns) (suc k) h = rest ns k h

pub squeezed_inside : (ns : List ℕ) → LeadsInside (squeezed_shape ns) (squeezed_index ns) ns
squeezed_inside ns i h = kept_inside (stays ns) ns i (length-stays ns) (gone_is_one ns) h

pub broadcast_inside : (ns to : List ℕ) → broadcasts ns to ≡ true → LeadsInside to (broadcast_index ns to) ns
broadcast_inside ns to fits = (broadcast_is_seen 0 ns to (zeros ns) (as_many ns) fits).within

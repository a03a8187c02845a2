-- One array after another along an axis, in the storage that the first fills.
use Rattle.nd_array_core.proofs.NamesFromOtherCrates.{◌≡◌, ℕ, ◌+◌, ◌-◌, ◌*◌, ◌<◌, ◌^◌, Bool, true, false, cond, ltb, List, ◌++◌, length, get_or, set, refl, ap, sym, subst, ◌∙◌, arith, ⊎_elim, ℤ, pos, negsuc, Result, Ok, Err, OnOk, OnErr, Option, Some, None, is_some, slice_get, remove, cases_eq, lt-ltb, false≢true, false_from_ne_true, length-set, set-set, set-get_or, get_or-set_same, slice_get_within, HasCheckedSize, in_box, size_of, row_rank, place_of, IsSeparated, lower_shape, upper_shape, upper_index, row_rank_below, coordinate_below, length_within, in_box-set, got_before, got_after, there_is_some, grown_shape, Placement, FillsStorage, IsGrown, IsTailOrder, in_box-longer, zero_factor, size_of-removed, size_of-set, Meaning, inside, row_major_elements, stored_at, names_place, HoldsAll, meaning_count, meaning_get}
use Rattle.std.proofs.lemmas.List.{length-append}
use Rattle.nd_array_core.specs.ConcatenationAndSplit.{broadcast_after, lower_of, upper_of, concatenated, concatenated_shape}
use Rattle.nd_array_core.specs.LayoutLaws.{NothingOutside}
use Rattle.nd_array_core.specs.growth.Append.{IsAlikeOnOtherAxes, ArePutAfter}
use Rattle.nd_array_core.proofs.growth_lemmas.JoinedParts.{split_and_joined_at}
use Rattle.nd_array_core.proofs.law_lemmas.LayoutLaws.{same_meaning, inside_box}
use Rattle.nd_array_core.proofs.along_lemmas.SelectedCoordinates.{box_has}
use Rattle.nd_array_core.proofs.layout_lemmas.ElementsUnderNewLayout.{step_holds, step_element}

-- what is seen of stored elements under a placement
abbrev pub shown : {A : Type 0} → Placement → (ℕ → Option A) → Meaning A
shown l stored = record { shape = l.lengths; at = λ i. inside l.lengths i (stored_at stored (place_of l.offset l.strides i)) }

-- ---- shapes that fit
module _ (ns ms : List ℕ) (a : ℕ) (on : a < length ns) (fits : IsAlikeOnOtherAxes ns ms a) where
  pub fits_axis : a < length ms
  fits_axis = let e = ap length fits.1 in let q = length-set ms a (get_or ns a 0) in omega (arith, e, q, on)

  pub fits_back : set ns a (get_or ms a 0) ≡ ms
  fits_back =
      ap (λ l. set l a (get_or ms a 0)) (sym fits.1)
      ∙ (set-set ms a (get_or ns a 0) (get_or ms a 0) ∙ set-get_or ms a 0)

  pub fits_lower : lower_shape (grown_shape ns a (get_or ms a 0)) a (get_or ns a 0) ≡ ns
  fits_lower = set-set ns a (get_or ns a 0 + get_or ms a 0) (get_or ns a 0) ∙ set-get_or ns a 0

  pub fits_upper : upper_shape (grown_shape ns a (get_or ms a 0)) a (get_or ns a 0) ≡ ms
  fits_upper =
      let long : get_or (grown_shape ns a (get_or ms a 0)) a 0 ≡ get_or ns a 0 + get_or ms a 0 = get_or-set_same ns a (get_or ns a 0 + get_or ms a 0) 0 on in
      set-set ns a (get_or ns a 0 + get_or ms a 0) (get_or (grown_shape ns a (get_or ms a 0)) a 0 - get_or ns a 0)
      ∙ (ap (set ns a) (omega (arith, long)) ∙ fits_back)

  pub fits_size : size_of (grown_shape ns a (get_or ms a 0)) ≡ size_of ns + size_of ms
  fits_size =
      let whole = size_of-set ns a (get_or ns a 0 + get_or ms a 0) on in
      let old : size_of ns ≡ get_or ns a 0 * size_of (remove ns a) = size_of-removed ns a on in
      let new : size_of ms ≡ get_or ms a 0 * size_of (remove ns a) = sym (ap size_of fits_back) ∙ size_of-set ns a (get_or ms a 0) on in
      omega (arith, whole, old, new)

  pub fits_more : 0 < size_of ms → 0 < get_or ms a 0
  fits_more some =
      let new : size_of ms ≡ get_or ms a 0 * size_of (remove ms a) = size_of-removed ms a fits_axis in
      ⊎_elim
      (λ (none : get_or ms a 0 ≡ 0). absurd (let z = ap (λ n. n * size_of (remove ms a)) none in omega (arith, new, z, some)))
      (λ (other : get_or ms a 0 ≡ 0 → ⊥). omega arith)
      (cases_eq (get_or ms a 0) 0)

  pub fits_none : 0 < size_of ns → size_of ms ≡ 0 → get_or ms a 0 ≡ 0
  fits_none some none =
      let old : size_of ns ≡ get_or ns a 0 * size_of (remove ns a) = size_of-removed ns a on in
      let new : size_of ms ≡ get_or ms a 0 * size_of (remove ns a) = sym (ap size_of fits_back) ∙ size_of-set ns a (get_or ms a 0) on in
      ⊎_elim
      (λ (is : get_or ms a 0 ≡ 0). is)
      (λ (other : get_or ms a 0 ≡ 0 → ⊥).
      let rest = zero_factor (get_or ms a 0) (size_of (remove ns a)) (sym new ∙ none) other in
      let gone = ap (λ r. get_or ns a 0 * r) rest in
      absurd (omega (arith, old, gone, some)))
      (cases_eq (get_or ms a 0) 0)

-- the first of two shapes has no elements, the second has: its axis is of length 0
pub first_none : (ns ms : List ℕ) (a : ℕ) → a < length ns → IsAlikeOnOtherAxes ns ms a → size_of ns ≡ 0 → 0 < size_of ms → get_or ns a 0 ≡ 0
first_none ns ms a on fits none some =
    let old : size_of ns ≡ get_or ns a 0 * size_of (remove ns a) = size_of-removed ns a on in
    let new : size_of ms ≡ get_or ms a 0 * size_of (remove ns a) = sym (ap size_of (fits_back ns ms a on fits)) ∙ size_of-set ns a (get_or ms a 0) on in
    ⊎_elim
    (λ (is : get_or ns a 0 ≡ 0). is)
    (λ (other : get_or ns a 0 ≡ 0 → ⊥).
    let rest = zero_factor (get_or ns a 0) (size_of (remove ns a)) (sym old ∙ none) other in
    let gone = ap (λ r. get_or ms a 0 * r) rest in
    absurd (omega (arith, new, gone, some)))
    (cases_eq (get_or ns a 0) 0)

-- a part of the grown shape, by what the code has of the numbers
pub cut_at : (part : List ℕ → ℕ → List ℕ) (ns ls ms : List ℕ) (a added from : ℕ) → ls ≡ grown_shape ns a added → added ≡ get_or ms a 0 → from ≡ get_or ns a 0 → part ls from ≡ part (grown_shape ns a (get_or ms a 0)) (get_or ns a 0)
cut_at part ns ls ms a added from shape more start = ap (λ s. part s from) (shape ∙ ap (grown_shape ns a) more) ∙ ap (part (grown_shape ns a (get_or ms a 0))) start

-- two lengths of shapes that have a checked size don't overflow
pub lengths_fit : (ns ms : List ℕ) (a : ℕ) → HasCheckedSize ns → HasCheckedSize ms → get_or ns a 0 + get_or ms a 0 < 2 ^ 64
lengths_fit ns ms a few fewer = let x = length_within ns a in let y = length_within ms a in omega (arith, x, y, few, fewer)

-- two things that an accepted call gives
pub on_both : {T E P Q C : Type 0} (r : Result T E) → (P → Q → C) → OnOk r P → OnOk r Q → OnOk r C
on_both (Ok x) f p q = f p q
on_both (Err e) f p q = p

-- and that a refused one gives
pub err_both : {T E P Q C : Type 0} (r : Result T E) → (P → Q → C) → OnErr r P → OnErr r Q → OnErr r C
err_both (Ok x) f p q = p
err_both (Err e) f p q = f p q

pub err_three : {T E P Q W C : Type 0} (r : Result T E) → (P → Q → W → C) → OnErr r P → OnErr r Q → OnErr r W → OnErr r C
err_three (Ok x) f p q w = p
err_three (Err e) f p q w = f p q w

pub err_under : {T E P : Type 0} (Q : Type 0) (r : Result T E) → (P → OnErr r Q) → OnErr r (P → Q)
err_under Q (Ok x) f = tt
err_under Q (Err e) f = f

-- a shape without elements has no index
pub no_index : (ns i : List ℕ) → size_of ns ≡ 0 → in_box ns i ≡ true → ⊥
no_index ns i none h = let below = row_rank_below ns i h in omega (arith, below, none)

-- meanings of one shape and the same elements
pub same_at : {A : Type 0} (m n : Meaning A) → m.shape ≡ n.shape → ((i : List ℕ) → m.at i ≡ n.at i) → m ≡ n
same_at m n shape at = same_meaning n m.shape m.at shape at

module _ {A : Type 0} where
  -- ---- a storage of as many elements as there are indexes
  place_below : (items : List A) (z : ℤ) → names_place (slice_get items) z ≡ true → (k : ℕ) × (k < length items) × (z ≡ pos k)
  place_below items (negsuc n) there = absurd (false≢true there)
  place_below items (pos k) there = by_element (slice_get items k) refl there
    where
      by_element : (o : Option A) → slice_get items k ≡ o → is_some o ≡ true → (q : ℕ) × (q < length items) × (pos k ≡ pos q)
      by_element (Some x) is there = (k, slice_get_within items k x is, refl)
      by_element None is there = absurd (false≢true there)

  pub full_fills : (l : Placement) (items : List A) → HoldsAll (slice_get items) l.offset l.lengths l.strides → IsSeparated l.lengths l.strides → length items ≡ size_of l.lengths → FillsStorage l
  full_fills l items holds apart full = record {
    apart = apart;
    within = λ i h.
        let w = place_below items (place_of l.offset l.strides i) (holds i h) in
        let few = w.1 in
        (w.0, omega (arith, few, full), w.2);
  }

  -- ---- the listed elements
  module _ (stored : ℕ → Option A) (g added order : Placement) (a from : ℕ) (tail : IsTailOrder g a from added order) (holds : HoldsAll stored added.offset added.lengths added.strides) (old new : List A) (count : length old ≡ size_of (lower_shape g.lengths a from)) (is : new ≡ old ++ row_major_elements (shown order stored)) where
    has_each : (j : List ℕ) → in_box order.lengths j ≡ true → is_some ((shown order stored).at j) ≡ true
    has_each j h = box_has stored order.offset order.lengths order.strides (step_holds stored tail.step holds) j h

    pub tail_put : ArePutAfter g a from added.lengths (shown added stored).at old new
    tail_put = record {
      front = (row_major_elements (shown order stored), is);
      count = ap length is ∙ (length-append old (row_major_elements (shown order stored)) ∙ ap (λ n. length old + n) (meaning_count (shown order stored) has_each ∙ tail.size));
      elements_put = λ i h.
          let w = tail.ranked i h in
          let j = w.0 in
          let r = row_rank order.lengths j in
          ap (stored_at (slice_get new)) w.3
          ∙ (ap (λ xs. slice_get xs (size_of (lower_shape g.lengths a from) + r)) is
          ∙ (got_after old (row_major_elements (shown order stored)) (size_of (lower_shape g.lengths a from)) r count
          ∙ (meaning_get (shown order stored) has_each j w.1
          ∙ (step_element stored tail.step j
          ∙ (inside_box order.lengths j ((shown added stored).at (tail.source j)) w.1
          ∙ ap (shown added stored).at w.2)))));
    }

  -- ---- what the grown array shows
  module _ (l new : Placement) (a : ℕ) (m : Meaning A) (old items : List A) (on : a < length l.lengths) (fits : IsAlikeOnOtherAxes l.lengths m.shape a) (longer : new.lengths ≡ grown_shape l.lengths a (get_or m.shape a 0)) (kept : (i : List ℕ) → in_box l.lengths i ≡ true → place_of new.offset new.strides i ≡ place_of l.offset l.strides i) (fills : FillsStorage new) (after : ArePutAfter new a (get_or l.lengths a 0) m.shape m.at old items) (holds : HoldsAll (slice_get old) l.offset l.lengths l.strides) (full : length old ≡ size_of l.lengths) where
    pub grown_count : length items ≡ size_of new.lengths
    grown_count =
        let size = fits_size l.lengths m.shape a on fits in
        let shape = ap size_of longer in
        omega (arith, after.count, full, size, shape)

    pub grown_holds : HoldsAll (slice_get items) new.offset new.lengths new.strides
    grown_holds i h =
        let w = fills.within i h in
        let few = w.1 in
        ap (names_place (slice_get items)) w.2 ∙ there_is_some items w.0 (omega (arith, few, grown_count))

    wider : (i : List ℕ) → in_box l.lengths i ≡ true → in_box new.lengths i ≡ true
    wider i h = ap (λ s. in_box s i) longer ∙ in_box-longer l.lengths i a (get_or l.lengths a 0 + get_or m.shape a 0) on (omega arith) h

    old_kept : (i : List ℕ) → in_box l.lengths i ≡ true → stored_at (slice_get items) (place_of new.offset new.strides i) ≡ stored_at (slice_get old) (place_of l.offset l.strides i)
    old_kept i h =
        let w = place_below old (place_of l.offset l.strides i) (holds i h) in
        let front = after.front in
        ap (stored_at (slice_get items)) (kept i h ∙ w.2)
        ∙ (ap (λ xs. slice_get xs w.0) front.1
        ∙ (got_before old front.0 w.0 w.1
        ∙ ap (stored_at (slice_get old)) (sym w.2)))

    cut_low : lower_shape new.lengths a (get_or l.lengths a 0) ≡ l.lengths
    cut_low = ap (λ s. lower_shape s a (get_or l.lengths a 0)) longer ∙ fits_lower l.lengths m.shape a on fits

    cut_high : upper_shape new.lengths a (get_or l.lengths a 0) ≡ m.shape
    cut_high = ap (λ s. upper_shape s a (get_or l.lengths a 0)) longer ∙ fits_upper l.lengths m.shape a on fits

    low_at : (i : List ℕ) → inside l.lengths i ((shown new (slice_get items)).at i) ≡ (shown l (slice_get old)).at i
    low_at i = by_test (in_box l.lengths i) refl
      where
        by_test : (b : Bool) → in_box l.lengths i ≡ b → inside l.lengths i ((shown new (slice_get items)).at i) ≡ (shown l (slice_get old)).at i
        by_test true h = ap (inside l.lengths i) (inside_box new.lengths i (stored_at (slice_get items) (place_of new.offset new.strides i)) (wider i h) ∙ old_kept i h)
        by_test false h = rw h refl

    lower_shown : lower_of a (get_or l.lengths a 0) (shown new (slice_get items)) ≡ shown l (slice_get old)
    lower_shown =
        same_meaning (shown l (slice_get old)) (lower_shape new.lengths a (get_or l.lengths a 0)) (λ i. inside (lower_shape new.lengths a (get_or l.lengths a 0)) i ((shown new (slice_get items)).at i)) cut_low
        (λ i. ap (λ s. inside s i ((shown new (slice_get items)).at i)) cut_low ∙ low_at i)

    higher : (i : List ℕ) → in_box m.shape i ≡ true → in_box new.lengths (upper_index a (get_or l.lengths a 0) i) ≡ true
    higher i h =
        let n = get_or l.lengths a 0 in
        let below = coordinate_below m.shape i a h (fits_axis l.lengths m.shape a on fits) in
        let whole : set m.shape a (n + get_or m.shape a 0) ≡ new.lengths =
        ap (λ s. set s a (n + get_or m.shape a 0)) (sym (fits_back l.lengths m.shape a on fits))
        ∙ (set-set l.lengths a (get_or m.shape a 0) (n + get_or m.shape a 0) ∙ sym longer) in
        ap (λ s. in_box s (upper_index a n i)) (sym whole) ∙ in_box-set m.shape i a (n + get_or m.shape a 0) (get_or i a 0 + n) h (omega (arith, below))

    high_at : NothingOutside m → (i : List ℕ) → inside m.shape i ((shown new (slice_get items)).at (upper_index a (get_or l.lengths a 0) i)) ≡ m.at i
    high_at nothing i = by_test (in_box m.shape i) refl
      where
        by_test : (b : Bool) → in_box m.shape i ≡ b → inside m.shape i ((shown new (slice_get items)).at (upper_index a (get_or l.lengths a 0) i)) ≡ m.at i
        by_test true h =
            inside_box m.shape i ((shown new (slice_get items)).at (upper_index a (get_or l.lengths a 0) i)) h
            ∙ (inside_box new.lengths (upper_index a (get_or l.lengths a 0) i) (stored_at (slice_get items) (place_of new.offset new.strides (upper_index a (get_or l.lengths a 0) i))) (higher i h)
            ∙ after.elements_put i h)
        by_test false h = rw h (sym (nothing i h))

    upper_shown : NothingOutside m → upper_of a (get_or l.lengths a 0) (shown new (slice_get items)) ≡ m
    upper_shown nothing =
        same_meaning m (upper_shape new.lengths a (get_or l.lengths a 0)) (λ i. inside (upper_shape new.lengths a (get_or l.lengths a 0)) i ((shown new (slice_get items)).at (upper_index a (get_or l.lengths a 0) i))) cut_high
        (λ i. ap (λ s. inside s i ((shown new (slice_get items)).at (upper_index a (get_or l.lengths a 0) i))) cut_high ∙ high_at nothing i)

    nothing_shown : NothingOutside (shown new (slice_get items))
    nothing_shown i outside = rw outside refl

    pub joined_shown : NothingOutside m → shown new (slice_get items) ≡ concatenated a (shown l (slice_get old)) m
    joined_shown nothing =
        let n = get_or l.lengths a 0 in
        let whole = shown new (slice_get items) in
        let long : get_or new.lengths a 0 ≡ n + get_or m.shape a 0 = ap (λ s. get_or s a 0) longer ∙ get_or-set_same l.lengths a (n + get_or m.shape a 0) 0 on in
        let axes : length new.lengths ≡ length l.lengths = ap length longer ∙ length-set l.lengths a (n + get_or m.shape a 0) in
        sym (split_and_joined_at whole a n (omega (arith, axes, on)) (omega (arith, long)) nothing_shown)
        ∙ (ap (λ x. concatenated a x (upper_of a n whole)) lower_shown ∙ ap (concatenated a (shown l (slice_get old))) (upper_shown nothing))

  -- ---- both outcomes
  pub grown_or_kept : {T E : Type 0} (r : Result T E) (l new : Placement) (a : ℕ) (m : Meaning A) (old items : List A) → a < length l.lengths → IsAlikeOnOtherAxes l.lengths m.shape a → HoldsAll (slice_get old) l.offset l.lengths l.strides → IsSeparated l.lengths l.strides → length old ≡ size_of l.lengths → OnOk r (IsGrown l a (get_or m.shape a 0) new) → OnOk r (ArePutAfter new a (get_or l.lengths a 0) m.shape m.at old items) → OnErr r ((items ≡ old) × (new ≡ l)) → HoldsAll (slice_get items) new.offset new.lengths new.strides × IsSeparated new.lengths new.strides
  grown_or_kept (Ok x) l new a m old items on fits holds apart full grown put same = (grown_holds l new a m old items on fits grown.lengths grown.kept grown.fills put holds full, grown.fills.apart)
  grown_or_kept (Err e) l new a m old items on fits holds apart full grown put same =
      subst (λ (p : Placement × List A). HoldsAll (slice_get p.1) p.0.offset p.0.lengths p.0.strides × IsSeparated p.0.lengths p.0.strides) (λ k. (sym same.1 k, sym same.0 k)) (holds, apart)

  -- ---- shapes without elements
  pub same_none : (m n : Meaning A) → m.shape ≡ n.shape → size_of n.shape ≡ 0 → NothingOutside m → NothingOutside n → m ≡ n
  same_none m n shape none nothing_m nothing_n =
      same_meaning n m.shape m.at shape (λ i. nothing_m i (ap (λ s. in_box s i) shape ∙ outside i) ∙ sym (nothing_n i (outside i)))
    where
      outside : (i : List ℕ) → in_box n.shape i ≡ false
      outside i = false_from_ne_true (in_box n.shape i) (λ h. let below = row_rank_below n.shape i h in omega (arith, below, none))

  pub nothing_joined : (a : ℕ) (m n : Meaning A) → NothingOutside (concatenated a m n)
  nothing_joined a m n i outside = rw outside refl

  -- nothing comes after
  pub joined_nothing : (a : ℕ) (m n : Meaning A) → a < length m.shape → get_or n.shape a 0 ≡ 0 → NothingOutside m → concatenated a m n ≡ m
  joined_nothing a m n on none nothing =
      same_meaning m (concatenated_shape m.shape n.shape a) (concatenated a m n).at shape (λ i. ap (λ s. inside s i (cond (ltb (get_or i a 0) (get_or m.shape a 0)) (m.at i) ((broadcast_after a m n).at (set i a (get_or i a 0 - get_or m.shape a 0))))) shape ∙ by_test i (in_box m.shape i) refl)
    where
      shape : concatenated_shape m.shape n.shape a ≡ m.shape
      shape = ap (set m.shape a) (omega (arith, none)) ∙ set-get_or m.shape a 0

      by_test : (i : List ℕ) (b : Bool) → in_box m.shape i ≡ b → inside m.shape i (cond (ltb (get_or i a 0) (get_or m.shape a 0)) (m.at i) ((broadcast_after a m n).at (set i a (get_or i a 0 - get_or m.shape a 0)))) ≡ m.at i
      by_test i true h = inside_box m.shape i (cond (ltb (get_or i a 0) (get_or m.shape a 0)) (m.at i) ((broadcast_after a m n).at (set i a (get_or i a 0 - get_or m.shape a 0)))) h ∙ ap (λ b. cond b (m.at i) ((broadcast_after a m n).at (set i a (get_or i a 0 - get_or m.shape a 0)))) (lt-ltb (get_or i a 0) (get_or m.shape a 0) (coordinate_below m.shape i a h on))
      by_test i false h = rw h (sym (nothing i h))

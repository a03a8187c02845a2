-- Elements compared one by one: block after block, and lane after lane.
use Rattle.nd_elements.proofs.NamesFromOtherCrates.{◌≡◌, ℕ, ◌+◌, ◌-◌, ◌<◌, ◌≤◌, Bool, true, false, ◌&&◌, List, [], ◌∷◌, ◌++◌, length, get_or, zero, suc, ℤ, refl, ap, sym, ◌∙◌, arith, Option, Some, None, is_some, nat_eq, slice_get, take, drop, if◌then◌else◌, unwrap_or, unsigned_Decides, first_so, second_so, slice_eq-Decides, slice_get_within, pointwise, filter_map, and-true, and-false, in_box, size_of, row_rank, index_at, indexes_of, in_box-index_at, row_rank-index_at, place_of}
use Rattle.nd_elements.specs.ShapeAndElements.{inside}
use Rattle.nd_elements.specs.StoragePlaces.{stored_at, HoldsAll}
use Rattle.nd_elements.specs.CollectedElements.{collected}
use Rattle.nd_elements.proofs.elements_lemmas.ElementsCollectedInOrder.{collected_alike, collected_more, collected_then, length-collected, listed_get, elements_count}
use Rattle.nd_elements.proofs.BoolAndResultCases.{by_value}

and_assoc : (a b c : Bool) → ((a && b) && c) ≡ (a && (b && c))
and_assoc true b c = refl
and_assoc false b c = refl

module _ {A : Type 0} where
  pub is_inside : (ns i : List ℕ) (o : Option A) (x : A) → inside ns i o ≡ Some x → in_box ns i ≡ true
  is_inside ns i o x e = by_value (λ t. (if t then o else None) ≡ Some x → t ≡ true) (in_box ns i) (λ h e. refl) (λ h e. absurd cc) e

  shows_at : (stored : ℕ → Option A) (first : ℕ) (ns : List ℕ) (ss : List ℤ) → HoldsAll stored first ns ss → (i : List ℕ) → in_box ns i ≡ true
      → inside ns i (stored_at stored (place_of first ss i)) ≡ slice_get (filter_map (λ j. inside ns j (stored_at stored (place_of first ss j))) (indexes_of ns)) (row_rank ns i)
  shows_at stored first ns ss holds i h = ap (λ t. if t then stored_at stored (place_of first ss i) else None) h ∙ sym (listed_get stored first ns ss holds i h)

module _ {A : Type 0} (E : A → A → Bool) where
  pointwise_append : (xs ys zs ws : List A) → length xs ≡ length ys → pointwise E (xs ++ zs) (ys ++ ws) ≡ (pointwise E xs ys && pointwise E zs ws)
  pointwise_append [] [] zs ws long = refl
  pointwise_append [] (y ∷ ys) zs ws long = absurd (omega (arith, long))
  pointwise_append (x ∷ xs) [] zs ws long = absurd (omega (arith, long))
  pointwise_append (x ∷ xs) (y ∷ ys) zs ws long =
      ap (λ t. E x y && t) (pointwise_append xs ys zs ws (omega (arith, long))) ∙ sym (and_assoc (E x y) (pointwise E xs ys) (pointwise E zs ws))

  -- a pair more from the front of two lists
  pub pair_more : (k : ℕ) (xs ys : List A) (x y : A) → k < length xs → k < length ys → x ≡ get_or xs k x → y ≡ get_or ys k y
      → (pointwise E (take k xs) (take k ys) && E x y) ≡ pointwise E (take (suc k) xs) (take (suc k) ys)
  pair_more k [] ys x y below other e f = absurd (omega (arith, below))
  pair_more k (a ∷ xs) [] x y below other e f = absurd (omega (arith, other))
  pair_more zero (a ∷ xs) (b ∷ ys) x y below other e f = (λ k. E (e k) (f k)) ∙ sym (and-true (E a b))
  pair_more (suc k) (a ∷ xs) (b ∷ ys) x y below other e f =
      and_assoc (E a b) (pointwise E (take k xs) (take k ys)) (E x y)
      ∙ ap (λ t. E a b && t) (pair_more k xs ys x y (omega (arith, below)) (omega (arith, other)) e f)

  -- the fronts of two lists, and what stands after them
  pub front_then : (n : ℕ) (xs ys : List A) → length ys ≡ length xs → pointwise E xs ys ≡ (pointwise E (take n xs) (take n ys) && pointwise E (drop n xs) (drop n ys))
  front_then zero xs ys as_long = refl
  front_then (suc n) [] [] as_long = refl
  front_then (suc n) [] (y ∷ ys) as_long = absurd (omega (arith, as_long))
  front_then (suc n) (x ∷ xs) [] as_long = absurd (omega (arith, as_long))
  front_then (suc n) (x ∷ xs) (y ∷ ys) as_long =
      ap (λ t. E x y && t) (front_then n xs ys (omega (arith, as_long))) ∙ sym (and_assoc (E x y) (pointwise E (take n xs) (take n ys)) (pointwise E (drop n xs) (drop n ys)))

  module _ (f h : ℕ → Option A) where
    long : (n : ℕ) → ((k : ℕ) → k < n → is_some (f k) ≡ true) → ((k : ℕ) → k < n → is_some (h k) ≡ true) → length (collected f n) ≡ length (collected h n)
    long n some other = length-collected f n some ∙ sym (length-collected h n other)

    -- one pair more
    pub compared_more : (k : ℕ) (x y : A) (same : Bool) → ((j : ℕ) → j < k → is_some (f j) ≡ true) → ((j : ℕ) → j < k → is_some (h j) ≡ true) → f k ≡ Some x → h k ≡ Some y
        → same ≡ pointwise E (collected f k) (collected h k) → (same && E x y) ≡ pointwise E (collected f (k + 1)) (collected h (k + 1))
    compared_more k x y same some other fx hy so_far =
        ap (λ t. t && E x y) so_far
        ∙ ap (λ t. pointwise E (collected f k) (collected h k) && t) (sym (and-true (E x y)))
        ∙ sym (pointwise_append (collected f k) (collected h k) (x ∷ []) (y ∷ []) (long k some other))
        ∙ sym (λ i. pointwise E (collected_more f k x fx i) (collected_more h k y hy i))

    -- those from k on after those below it
    pub compared_then : (k m : ℕ) → ((j : ℕ) → j < k → is_some (f j) ≡ true) → ((j : ℕ) → j < k → is_some (h j) ≡ true)
        → pointwise E (collected f (k + m)) (collected h (k + m)) ≡ (pointwise E (collected f k) (collected h k) && pointwise E (collected (λ j. f (k + j)) m) (collected (λ j. h (k + j)) m))
    compared_then k m some other =
        (λ i. pointwise E (collected_then f k m i) (collected_then h k m i))
        ∙ pointwise_append (collected f k) (collected h k) (collected (λ j. f (k + j)) m) (collected (λ j. h (k + j)) m) (long k some other)

    module _ (n : ℕ) (some : (j : ℕ) → j < n → is_some (f j) ≡ true) (other : (j : ℕ) → j < n → is_some (h j) ≡ true) where
      -- all of a block are equal
      pub block_more : (k m : ℕ) → k + m ≤ n → pointwise E (collected f k) (collected h k) ≡ true → pointwise E (collected (λ j. f (k + j)) m) (collected (λ j. h (k + j)) m) ≡ true
          → pointwise E (collected f (k + m)) (collected h (k + m)) ≡ true
      block_more k m within before block =
          compared_then k m (λ j below. some j (omega (arith, below, within))) (λ j below. other j (omega (arith, below, within)))
          ∙ ap (λ t. t && pointwise E (collected (λ j. f (k + j)) m) (collected (λ j. h (k + j)) m)) before
          ∙ block

      -- the blocks before the last are equal
      pub block_last : (k : ℕ) → k ≤ n → pointwise E (collected f k) (collected h k) ≡ true
          → pointwise E (collected f n) (collected h n) ≡ pointwise E (collected (λ j. f (k + j)) (n - k)) (collected (λ j. h (k + j)) (n - k))
      block_last k within before =
          let whole : n ≡ k + (n - k) = omega (arith, within) in
          ap (λ m. pointwise E (collected f m) (collected h m)) whole
          ∙ compared_then k (n - k) (λ j below. some j (omega (arith, below, within))) (λ j below. other j (omega (arith, below, within)))
          ∙ ap (λ t. t && pointwise E (collected (λ j. f (k + j)) (n - k)) (collected (λ j. h (k + j)) (n - k))) before

      pub front_differs : (k : ℕ) → k ≤ n → pointwise E (collected f k) (collected h k) ≡ false → pointwise E (collected f n) (collected h n) ≡ false
      front_differs k within differs =
          let whole : n ≡ k + (n - k) = omega (arith, within) in
          ap (λ m. pointwise E (collected f m) (collected h m)) whole
          ∙ compared_then k (n - k) (λ j below. some j (omega (arith, below, within))) (λ j below. other j (omega (arith, below, within)))
          ∙ ap (λ t. t && pointwise E (collected (λ j. f (k + j)) (n - k)) (collected (λ j. h (k + j)) (n - k))) differs

      -- some of a block are not
      pub block_differs : (k m : ℕ) → k + m ≤ n → pointwise E (collected (λ j. f (k + j)) m) (collected (λ j. h (k + j)) m) ≡ false → pointwise E (collected f n) (collected h n) ≡ false
      block_differs k m within differs =
          front_differs (k + m) within
          (compared_then k m (λ j below. some j (omega (arith, below, within))) (λ j below. other j (omega (arith, below, within)))
          ∙ ap (λ t. pointwise E (collected f k) (collected h k) && t) differs
          ∙ and-false (pointwise E (collected f k) (collected h k)))

      -- the same of a block that is also found otherwise, as that of a lane
      module _ (k m : ℕ) (one two : ℕ → Option A) (within : k + m ≤ n) (ours : (j : ℕ) → j < m → one j ≡ f (k + j)) (theirs : (j : ℕ) → j < m → two j ≡ h (k + j)) where
        same_block : pointwise E (collected one m) (collected two m) ≡ pointwise E (collected (λ j. f (k + j)) m) (collected (λ j. h (k + j)) m)
        same_block = λ i. pointwise E (collected_alike one (λ j. f (k + j)) m ours i) (collected_alike two (λ j. h (k + j)) m theirs i)

        pub lane_more : pointwise E (collected f k) (collected h k) ≡ true → pointwise E (collected one m) (collected two m) ≡ true → pointwise E (collected f (k + m)) (collected h (k + m)) ≡ true
        lane_more before same = block_more k m within before (sym same_block ∙ same)

        pub lane_differs : pointwise E (collected one m) (collected two m) ≡ false → pointwise E (collected f n) (collected h n) ≡ false
        lane_differs differs = block_differs k m within (sym same_block ∙ differs)

  pair_equal : (xs ys : List A) → pointwise E xs ys ≡ true → (k : ℕ) (x y : A) → slice_get xs k ≡ Some x → slice_get ys k ≡ Some y → E x y ≡ true
  pair_equal [] ys h k x y e f = absurd cc
  pair_equal (a ∷ xs) [] h k x y e f = absurd cc
  pair_equal (a ∷ xs) (b ∷ ys) h zero x y e f =
      let one : x ≡ a = ap (λ o. unwrap_or o a) (sym e) in
      let two : y ≡ b = ap (λ o. unwrap_or o b) (sym f) in
      (λ k. E (one k) (two k)) ∙ first_so (E a b) (pointwise E xs ys) h
  pair_equal (a ∷ xs) (b ∷ ys) h (suc k) x y e f = pair_equal xs ys (second_so (E a b) (pointwise E xs ys) h) k x y e f

  all_equal : (xs ys : List A) → length xs ≡ length ys → ((k : ℕ) (x y : A) → slice_get xs k ≡ Some x → slice_get ys k ≡ Some y → E x y ≡ true) → pointwise E xs ys ≡ true
  all_equal [] [] as_long each = refl
  all_equal [] (y ∷ ys) as_long each = absurd (omega (arith, as_long))
  all_equal (x ∷ xs) [] as_long each = absurd (omega (arith, as_long))
  all_equal (x ∷ xs) (y ∷ ys) as_long each = ap (λ t. t && pointwise E xs ys) (each 0 x y refl refl) ∙ all_equal xs ys (omega (arith, as_long)) (λ k. each (suc k))

  -- two arrays of one shape
  module _ (a b : ℕ → Option A) (from start : ℕ) (ns ms : List ℕ) (ss ts : List ℤ) (shape : ms ≡ ns) (holds : HoldsAll a from ns ss) (has : HoldsAll b start ms ts) where
    abbrev listed_at : (ℕ → Option A) → ℕ → List ℕ → List ℤ → List A
    listed_at stored offset lengths strides = filter_map (λ i. inside lengths i (stored_at stored (place_of offset strides i))) (indexes_of lengths)

    abbrev at_ours : List ℕ → Option A
    at_ours i = inside ns i (stored_at a (place_of from ss i))

    abbrev at_theirs : List ℕ → Option A
    at_theirs i = inside ms i (stored_at b (place_of start ts i))

    -- equal one by one: equal at each index
    pub equal_at : pointwise E (listed_at a from ns ss) (listed_at b start ms ts) ≡ true → (i : List ℕ) (x y : A) → at_ours i ≡ Some x → at_theirs i ≡ Some y → E x y ≡ true
    equal_at h i x y e f =
        pair_equal (listed_at a from ns ss) (listed_at b start ms ts) h (row_rank ns i) x y
        (sym (shows_at a from ns ss holds i (is_inside ns i (stored_at a (place_of from ss i)) x e)) ∙ e)
        (ap (λ ls. slice_get (listed_at b start ms ts) (row_rank ls i)) (sym shape) ∙ sym (shows_at b start ms ts has i (is_inside ms i (stored_at b (place_of start ts i)) y f)) ∙ f)

    pub all_at : ((i : List ℕ) (x y : A) → at_ours i ≡ Some x → at_theirs i ≡ Some y → E x y ≡ true) → pointwise E (listed_at a from ns ss) (listed_at b start ms ts) ≡ true
    all_at each =
        all_equal (listed_at a from ns ss) (listed_at b start ms ts) (elements_count a from ns ss holds ∙ ap size_of (sym shape) ∙ sym (elements_count b start ms ts has))
        (λ k x y e f.
        let below : k < size_of ns = (let l = elements_count a from ns ss holds in let b = slice_get_within (listed_at a from ns ss) k x e in omega (arith, l, b)) in
        let i = index_at ns k in
        let p = in_box-index_at ns k below in
        let q : in_box ms i ≡ true = ap (λ ls. in_box ls i) shape ∙ p in
        let rank = row_rank-index_at ns k below in
        each i x y
        (shows_at a from ns ss holds i p ∙ ap (slice_get (listed_at a from ns ss)) rank ∙ e)
        (shows_at b start ms ts has i q ∙ ap (slice_get (listed_at b start ms ts)) (ap (λ ls. row_rank ls i) shape ∙ rank) ∙ f))

  -- the test on two arrays, and what it means
  module _ (a b : ℕ → Option A) (from start : ℕ) (ns ms : List ℕ) (ss ts : List ℤ) (holds : HoldsAll a from ns ss) (has : HoldsAll b start ms ts) where
    abbrev elements : Bool
    elements = pointwise E (filter_map (λ i. inside ns i (stored_at a (place_of from ss i))) (indexes_of ns)) (filter_map (λ i. inside ms i (stored_at b (place_of start ts i))) (indexes_of ms))

    abbrev AreSame : Type 0
    AreSame = (ns ≡ ms) × ((i : List ℕ) (x y : A) → inside ns i (stored_at a (place_of from ss i)) ≡ Some x → inside ms i (stored_at b (place_of start ts i)) ≡ Some y → E x y ≡ true)

    pub equal_everywhere : (r : Bool) → r ≡ (pointwise nat_eq ns ms && elements) → (r ≡ true → AreSame) × (AreSame → r ≡ true)
    equal_everywhere r is = (there, back)
      where
        there : r ≡ true → AreSame
        there h =
            let both : (pointwise nat_eq ns ms && elements) ≡ true = sym is ∙ h in
            let same : ns ≡ ms = (slice_eq-Decides unsigned_Decides ns ms (pointwise nat_eq ns ms) refl).0 (first_so (pointwise nat_eq ns ms) elements both) in
            (same, equal_at a b from start ns ms ss ts (sym same) holds has (second_so (pointwise nat_eq ns ms) elements both))

        back : AreSame → r ≡ true
        back (same, each) = is ∙ ap (λ t. t && elements) ((slice_eq-Decides unsigned_Decides ns ms (pointwise nat_eq ns ms) refl).1 same) ∙ all_at a b from start ns ms ss ts (sym same) holds has each

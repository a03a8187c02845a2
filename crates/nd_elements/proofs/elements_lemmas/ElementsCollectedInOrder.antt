-- Elements collected by their numbers: lane after lane they are the elements in row-major order.
use Rattle.nd_elements.proofs.NamesFromOtherCrates.{◌≡◌, ℕ, zero, suc, ◌+◌, ◌*◌, ◌<◌, true, List, [], ◌∷◌, ◌++◌, length, get_or, ℤ, pos, ◌+ℤ◌, ◌*ℤ◌, refl, ap, sym, ◌∙◌, arith, length-append, append-nil, append_assoc, Option, Some, None, is_some, slice_get, filter_map, cons_option, pos-*ℤ-pos, sums, in_box, size_of, row_rank, index_at, indexes_of, place_of, length-indexes_of, get_or-indexes_of, in_box-index_at, index_at-row_rank, row_rank_below, IsLane, IsRejoined}
use Rattle.nd_elements.specs.ShapeAndElements.{Meaning, inside}
use Rattle.nd_elements.specs.ShapeAndElements.{row_major_elements}
use Rattle.nd_elements.specs.StoragePlaces.{stored_at, HoldsAll}
use Rattle.nd_elements.specs.EqualClones.{ClonesAreEqual, StoredClonesAreEqual, ClonesOfAllAreEqual}
use Rattle.nd_elements.proofs.BoolAndResultCases.{by_bool}
use Rattle.nd_elements.specs.CollectedElements.{collected, stored_along, stored_by_rank}

module _ {A : Type 0} where
  -- two maps that are alike below n
  pub collected_alike : (f h : ℕ → Option A) (n : ℕ) → ((k : ℕ) → k < n → f k ≡ h k) → collected f n ≡ collected h n
  collected_alike f h zero each = refl
  collected_alike f h (suc n) each = λ i. collected_alike f h n (λ k below. each k (omega (arith, below))) i ++ cons_option (each n (omega arith) i) []

  -- one number more
  pub collected_more : (f : ℕ → Option A) (n : ℕ) (x : A) → f n ≡ Some x → collected f (n + 1) ≡ collected f n ++ x ∷ []
  collected_more f n x e = let next : n + 1 ≡ suc n = omega arith in ap (collected f) next ∙ ap (λ o. collected f n ++ cons_option o []) e

  pub one_after : (f : ℕ → Option A) (n : ℕ) (before old new : List A) (x y : A) → old ≡ before ++ collected f n → new ≡ old ++ y ∷ [] → y ≡ x → f n ≡ Some x → new ≡ before ++ collected f (n + 1)
  one_after f n before old new x y so_far put same there =
      put
      ∙ ((λ k. so_far k ++ same k ∷ [])
      ∙ (append_assoc before (collected f n) (x ∷ [])
      ∙ ap (λ xs. before ++ xs) (sym (collected_more f n x there))))

  -- the numbers from k on after those below it
  pub collected_then : (f : ℕ → Option A) (k n : ℕ) → collected f (k + n) ≡ collected f k ++ collected (λ j. f (k + j)) n
  collected_then f k zero = let same : k + 0 ≡ k = omega arith in ap (collected f) same ∙ sym (append-nil (collected f k))
  collected_then f k (suc n) =
      let next : k + suc n ≡ suc (k + n) = omega arith in
      ap (collected f) next
      ∙ ap (λ xs. xs ++ cons_option (f (k + n)) []) (collected_then f k n)
      ∙ append_assoc (collected f k) (collected (λ j. f (k + j)) n) (cons_option (f (k + n)) [])

  -- as many as numbers, where each has one
  pub length-collected : (f : ℕ → Option A) (n : ℕ) → ((k : ℕ) → k < n → is_some (f k) ≡ true) → length (collected f n) ≡ n
  length-collected f zero has = refl
  length-collected f (suc n) has =
      omega (arith, length-append (collected f n) (cons_option (f n) []), length-collected f n (λ k below. has k (omega (arith, below))), one (f n) (has n (omega arith)))
    where
      one : (o : Option A) → is_some o ≡ true → length (cons_option o []) ≡ 1
      one (Some x) e = refl
      one None e = absurd cc

  front : (f : ℕ → Option A) (n : ℕ) → collected f (suc n) ≡ cons_option (f 0) (collected (λ k. f (suc k)) n)
  front f zero = refl
  front f (suc n) = ap (λ xs. xs ++ cons_option (f (suc n)) []) (front f n) ∙ after (f 0) (collected (λ k. f (suc k)) n) (cons_option (f (suc n)) [])
    where
      after : (o : Option A) (xs ys : List A) → cons_option o xs ++ ys ≡ cons_option o (xs ++ ys)
      after (Some x) xs ys = refl
      after None xs ys = refl

  -- what a map shows along a list, by the numbers of its items
  collected_list : (at : List ℕ → Option A) (is : List (List ℕ)) → collected (λ k. at (get_or is k [])) (length is) ≡ filter_map at is
  collected_list at [] = refl
  collected_list at (i ∷ is) = front (λ k. at (get_or (i ∷ is) k [])) (length is) ∙ ap (cons_option (at i)) (collected_list at is)

  module _ (stored : ℕ → Option A) (first : ℕ) (ns : List ℕ) (ss : List ℤ) where
    -- all ranks: the elements in row-major order
    pub all_collected : collected (stored_by_rank stored first ns ss) (size_of ns) ≡ filter_map (λ i. inside ns i (stored_at stored (place_of first ss i))) (indexes_of ns)
    all_collected =
        ap (collected (stored_by_rank stored first ns ss)) (sym (length-indexes_of ns))
        ∙ collected_alike (stored_by_rank stored first ns ss) (λ k. at (get_or (indexes_of ns) k [])) (length (indexes_of ns)) alike
        ∙ collected_list at (indexes_of ns)
      where
        at : List ℕ → Option A
        at i = inside ns i (stored_at stored (place_of first ss i))

        alike : (k : ℕ) → k < length (indexes_of ns) → stored_by_rank stored first ns ss k ≡ at (get_or (indexes_of ns) k [])
        alike k below =
            let under : k < size_of ns = omega (arith, below, length-indexes_of ns) in
            let there : at (index_at ns k) ≡ stored_by_rank stored first ns ss k = rw (in_box-index_at ns k under) refl in
            sym there ∙ ap at (sym (get_or-indexes_of ns k under))

    -- a lane after the ranks before it
    pub lane_collected : (rank place count : ℕ) (stride : ℤ) → IsLane first ns ss rank place count stride
        → collected (stored_by_rank stored first ns ss) (rank + count) ≡ collected (stored_by_rank stored first ns ss) rank ++ collected (stored_along stored place stride) count
    lane_collected rank place count stride lane =
        collected_then (stored_by_rank stored first ns ss) rank count
        ∙ ap (λ xs. collected (stored_by_rank stored first ns ss) rank ++ xs)
        (collected_alike (λ j. stored_by_rank stored first ns ss (rank + j)) (stored_along stored place stride) count (λ j below. ap (stored_at stored) (sym (lane.places j below))))

    -- the same after others
    pub lane_after : (before old new : List A) (rank next place count : ℕ) (stride : ℤ) → IsLane first ns ss rank place count stride → next ≡ rank + count
        → old ≡ before ++ collected (stored_by_rank stored first ns ss) rank → new ≡ old ++ collected (stored_along stored place stride) count → new ≡ before ++ collected (stored_by_rank stored first ns ss) next
    lane_after before old new rank next place count stride lane further so_far put =
        put
        ∙ ap (λ xs. xs ++ collected (stored_along stored place stride) count) so_far
        ∙ append_assoc before (collected (stored_by_rank stored first ns ss) rank) (collected (stored_along stored place stride) count)
        ∙ ap (λ xs. before ++ xs) (sym (lane_collected rank place count stride lane) ∙ ap (collected (stored_by_rank stored first ns ss)) (sym further))

  -- contiguous elements
  pub contiguous : (stored : ℕ → Option A) (place k : ℕ) (s : ℤ) → s ≡ pos 1 → stored_along stored place s k ≡ stored (place + k)
  contiguous stored place k s one = ap (stored_at stored) same
    where
      same : pos place +ℤ (pos k *ℤ s) ≡ pos (place + k)
      same =
          let whole : pos place +ℤ pos (k * 1) ≡ pos (place + k) = omega (arith, sums) in
          ap (λ t. pos place +ℤ (pos k *ℤ t)) one ∙ (ap (λ z. pos place +ℤ z) (pos-*ℤ-pos k 1) ∙ whole)

  pub contiguous_has : (stored : ℕ → Option A) (place count : ℕ) (s : ℤ) → s ≡ pos 1 → ((k : ℕ) → k < count → is_some (stored_along stored place s k) ≡ true) → (k : ℕ) → k < count → is_some (stored (place + k)) ≡ true
  contiguous_has stored place count s one has k below = ap is_some (sym (contiguous stored place k s one)) ∙ has k below

  pub listed_by : (f : ℕ → Option A) (xs : List A) → ((k : ℕ) (d : A) → k < length xs → f k ≡ Some (get_or xs k d)) → xs ≡ collected f (length xs)
  listed_by f [] each = refl
  listed_by f (x ∷ xs) each =
      ap (λ ys. x ∷ ys) (listed_by (λ k. f (suc k)) xs (λ k d below. each (suc k) d (omega (arith, below))))
      ∙ ap (λ o. cons_option o (collected (λ k. f (suc k)) (length xs))) (sym (each 0 x (omega arith)))
      ∙ sym (front f (length xs))

  module _ (stored : ℕ → Option A) (place count : ℕ) (s : ℤ) (one : s ≡ pos 1) (xs : List A) (long : length xs ≡ count) (each : (k : ℕ) (d : A) → k < count → stored (place + k) ≡ Some (get_or xs k d)) where
    contiguous_each : (k : ℕ) (d : A) → k < length xs → stored_along stored place s k ≡ Some (get_or xs k d)
    contiguous_each k d below = contiguous stored place k s one ∙ each k d (omega (arith, below, long))

    pub run_collected : xs ≡ collected (stored_along stored place s) count
    run_collected = listed_by (stored_along stored place s) xs contiguous_each ∙ ap (collected (stored_along stored place s)) long

  -- what a list was filtered from
  filtered_from : (at : List ℕ → Option A) (is : List (List ℕ)) (p : ℕ) (x : A) → slice_get (filter_map at is) p ≡ Some x → (i : List ℕ) × (at i ≡ Some x)
  filtered_from at [] p x e = absurd cc
  filtered_from at (i ∷ is) p x e = by_case (filtered_from at is) (at i) refl p e
    where
      by_case : ((q : ℕ) (y : A) → slice_get (filter_map at is) q ≡ Some y → (j : List ℕ) × (at j ≡ Some y)) → (o : Option A) → at i ≡ o → (q : ℕ) → slice_get (cons_option o (filter_map at is)) q ≡ Some x → (j : List ℕ) × (at j ≡ Some x)
      by_case rest None none q h = rest q x h
      by_case rest (Some y) some zero h = (i, some ∙ h)
      by_case rest (Some y) some (suc q) h = rest q x h

  pub elements_equal_clones : (is_clone : A → A → Type 0) (m : Meaning A) → ClonesOfAllAreEqual is_clone m.at → StoredClonesAreEqual is_clone (row_major_elements m)
  elements_equal_clones is_clone m equal p x e = let from = filtered_from m.at (indexes_of m.shape) p x e in equal from.0 x from.1

  module _ (stored : ℕ → Option A) (first : ℕ) (ns : List ℕ) (ss : List ℤ) (holds : HoldsAll stored first ns ss) where
    pub rank_has : (rank : ℕ) → rank < size_of ns → is_some (stored_by_rank stored first ns ss rank) ≡ true
    rank_has rank below = holds (index_at ns rank) (in_box-index_at ns rank below)

    pub elements_count : length (filter_map (λ i. inside ns i (stored_at stored (place_of first ss i))) (indexes_of ns)) ≡ size_of ns
    elements_count = ap length (sym (all_collected stored first ns ss)) ∙ length-collected (stored_by_rank stored first ns ss) (size_of ns) rank_has

  -- the same of a layout whose axes were joined
  module _ (stored : ℕ → Option A) (first : ℕ) (ns : List ℕ) (ss : List ℤ) (start : ℕ) (ms : List ℕ) (ts : List ℤ) (same : start ≡ first) (joined : IsRejoined ns ss ms ts) where
    joined_at : (rank : ℕ) → rank < size_of ms → stored_by_rank stored start ms ts rank ≡ stored_by_rank stored first ns ss rank
    joined_at rank below =
        λ k. stored_at stored (pos (same k) +ℤ joined.same rank (omega (arith, below, joined.size)) k)

    pub joined_has : HoldsAll stored first ns ss → (rank : ℕ) → rank < size_of ms → is_some (stored_by_rank stored start ms ts rank) ≡ true
    joined_has holds rank below =
        ap is_some (joined_at rank below) ∙ rank_has stored first ns ss holds rank (omega (arith, below, joined.size))

    pub joined_clones : (is_clone : A → A → Type 0) → ClonesOfAllAreEqual is_clone (λ i. inside ns i (stored_at stored (place_of first ss i)))
        → (rank : ℕ) (x : A) → rank < size_of ms → stored_by_rank stored start ms ts rank ≡ Some x → ClonesAreEqual is_clone x
    joined_clones is_clone equal rank x below e =
        let under : rank < size_of ns = omega (arith, below, joined.size) in
        equal (index_at ns rank) x (rw (in_box-index_at ns rank under) (sym (joined_at rank below) ∙ e))

    pub joined_elements : collected (stored_by_rank stored start ms ts) (size_of ms) ≡ filter_map (λ i. inside ns i (stored_at stored (place_of first ss i))) (indexes_of ns)
    joined_elements =
        collected_alike (stored_by_rank stored start ms ts) (stored_by_rank stored first ns ss) (size_of ms) joined_at
        ∙ ap (collected (stored_by_rank stored first ns ss)) joined.size
        ∙ all_collected stored first ns ss

  -- what stands at a number of those collected
  pub get-collected : (f : ℕ → Option A) (n k : ℕ) → k < n → ((j : ℕ) → j < n → is_some (f j) ≡ true) → slice_get (collected f n) k ≡ f k
  get-collected f zero k below has = absurd (omega (arith, below))
  get-collected f (suc n) k below has =
      ap (λ xs. slice_get xs k) (front f n) ∙ by_first (f 0) refl (has 0 (omega arith)) k below (λ j less. get-collected (λ i. f (suc i)) n j less (λ i less. has (suc i) (omega (arith, less))))
    where
      by_first : (o : Option A) → f 0 ≡ o → is_some o ≡ true → (m : ℕ) → m < suc n → ((j : ℕ) → j < n → slice_get (collected (λ i. f (suc i)) n) j ≡ f (suc j)) → slice_get (cons_option o (collected (λ i. f (suc i)) n)) m ≡ f m
      by_first None none some m less rest = absurd cc
      by_first (Some x) there some zero less rest = sym there
      by_first (Some x) there some (suc m) less rest = rest m (omega (arith, less))

  module _ (stored : ℕ → Option A) (first : ℕ) (ns : List ℕ) (ss : List ℤ) (holds : HoldsAll stored first ns ss) where
    -- an index's element stands at its row-major rank
    pub listed_get : (i : List ℕ) → in_box ns i ≡ true → slice_get (filter_map (λ j. inside ns j (stored_at stored (place_of first ss j))) (indexes_of ns)) (row_rank ns i) ≡ stored_at stored (place_of first ss i)
    listed_get i h =
        ap (λ xs. slice_get xs (row_rank ns i)) (sym (all_collected stored first ns ss))
        ∙ get-collected (stored_by_rank stored first ns ss) (size_of ns) (row_rank ns i) (row_rank_below ns i h) (rank_has stored first ns ss holds)
        ∙ ap (λ j. stored_at stored (place_of first ss j)) (index_at-row_rank ns i h)

    pub ordered_shows : (i : List ℕ) → inside ns i (slice_get (filter_map (λ j. inside ns j (stored_at stored (place_of first ss j))) (indexes_of ns)) (row_rank ns i)) ≡ inside ns i (stored_at stored (place_of first ss i))
    ordered_shows i = by_bool (in_box ns i) (λ h. ap (inside ns i) (listed_get i h)) (λ h. rw h refl)

  -- the elements of any meaning that has one at each index: as many as indexes, each at its index's row-major rank
  module _ (m : Meaning A) (has : (i : List ℕ) → in_box m.shape i ≡ true → is_some (m.at i) ≡ true) where
    abbrev by_rank : ℕ → Option A
    by_rank k = m.at (get_or (indexes_of m.shape) k [])

    some_by_rank : (k : ℕ) → k < length (indexes_of m.shape) → is_some (by_rank k) ≡ true
    some_by_rank k below =
        let under : k < size_of m.shape = omega (arith, below, length-indexes_of m.shape) in
        ap (λ i. is_some (m.at i)) (get_or-indexes_of m.shape k under) ∙ has (index_at m.shape k) (in_box-index_at m.shape k under)

    pub meaning_count : length (row_major_elements m) ≡ size_of m.shape
    meaning_count = ap length (sym (collected_list m.at (indexes_of m.shape))) ∙ length-collected by_rank (length (indexes_of m.shape)) some_by_rank ∙ length-indexes_of m.shape

    pub meaning_get : (i : List ℕ) → in_box m.shape i ≡ true → slice_get (row_major_elements m) (row_rank m.shape i) ≡ m.at i
    meaning_get i h =
        let below = row_rank_below m.shape i h in
        ap (λ xs. slice_get xs (row_rank m.shape i)) (sym (collected_list m.at (indexes_of m.shape)))
        ∙ get-collected by_rank (length (indexes_of m.shape)) (row_rank m.shape i) (omega (arith, below, length-indexes_of m.shape)) some_by_rank
        ∙ ap m.at (get_or-indexes_of m.shape (row_rank m.shape i) below ∙ index_at-row_rank m.shape i h)

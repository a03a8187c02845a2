-- The lanes of an axis folded, by the indexes of the array.
use Rattle.nd_array_core.proofs.NamesFromOtherCrates.{◌≡◌, ℕ, zero, suc, ◌<◌, ◌≤◌, Bool, true, false, List, [], ◌∷◌, ◌++◌, length, get_or, refl, ap, sym, subst, ◌∙◌, arith, Option, None, Some, nat_lt, Bor, Mut, fold, insert, remove, cons_option, nat_tests, fold-append, get_or-insert_at, length-remove, in_box, size_of, row_rank, index_at, indexed_shape, place_of, length-in_box, row_rank_below, remove-inserted, in_box-inserted, collected, inside, FoldsBetween, FoldableNumbered, AreFoldedTo, FoldableLanes, AreLanesFolded, listed, listed_part, listed_all, done_at_each, Placement, stored_at, LanePlaces, IsPairing, LieAlong, lane_found, foldable_alike, folded_alike, ran_weaker, ran_listed}
use Rattle.nd_array_core.specs.along.AxisFolds.{lane_at, FoldsShownBy, FoldsAt, FoldsAxis, AxisFoldable, AreFoldedBy}
use Rattle.nd_array_core.proofs.along_lemmas.IndexesByLanePosition.{index_of, index_rank, index_column, pair_numbers, pairs_rise}

module _ {F B A : Type 0} (g : Mut F (Bor B × (Bor A × Unit {0})) B) where
  -- by the indexes of the array
  module _ (ns : List ℕ) (a : ℕ) (on : a < length ns) {lane column : ℕ → ℕ} {number : ℕ → ℕ → ℕ} {all : ℕ} (pairs : IsPairing (size_of (indexed_shape ns a)) (get_or ns a 0) all lane column number) (at : List ℕ → Option A) (init : B) (f : F) where
    abbrev outer : List ℕ
    outer = indexed_shape ns a

    abbrev by_lane : ℕ → ℕ → Option A
    by_lane r k = lane_at at a (index_at outer r) k

    abbrev by_index : (ℕ → ℕ → Option B) → List ℕ → ℕ → Option B
    by_index totals j k = totals (row_rank outer j) k

    call_at : (totals : ℕ → ℕ → Option B) (m : ℕ) (p q : F) → m < all → FoldsBetween g (totals (lane m) (column m)) (by_lane (lane m) (column m)) (totals (lane m) (suc (column m))) p q → FoldsAt g at a (by_index totals) p (index_of ns a on pairs m) q
    call_at totals m p q below call =
        let i = index_of ns a on pairs m in
        subst (λ c. FoldsBetween g (totals (row_rank outer (remove i a)) c) (at i) (totals (row_rank outer (remove i a)) (suc c)) p q) (sym (index_column ns a on pairs m below))
        (subst (λ r. FoldsBetween g (totals r (column m)) (at i) (totals r (suc (column m))) p q) (sym (index_rank ns a on pairs m below)) call)

    pub axis_visited : (start : ℕ → Option B) → ((r : ℕ) → r < size_of outer → start r ≡ Some init) → (found : ℕ → Option B) (result : List ℕ → Option B) → ((j : List ℕ) → in_box outer j ≡ true → result j ≡ found (row_rank outer j))
        → AreFoldedTo g lane column (size_of outer) (get_or ns a 0) all by_lane start f found → FoldsAxis g ns at a init f result
    axis_visited start starts found result results folded =
        let totals = folded.0 in
        let numbers = pair_numbers ns a on pairs in (
          by_index totals,
          (λ j h. let below = row_rank_below outer j h in folded.1 (row_rank outer j) below ∙ starts (row_rank outer j) below),
          (λ j h. results j h ∙ folded.2 (row_rank outer j) (row_rank_below outer j h)),
          (
            folded.3.0,
            (
              listed (index_of ns a on pairs) all,
              listed_all numbers,
              pairs_rise ns a on pairs all (omega arith),
              ran_listed (FoldsAt g at a (by_index totals)) (index_of ns a on pairs) f folded.3.0 all
                  (ran_weaker (λ p m q. FoldsBetween g (totals (lane m) (column m)) (by_lane (lane m) (column m)) (totals (lane m) (suc (column m))) p q) (λ p m q. FoldsAt g at a (by_index totals) p (index_of ns a on pairs m) q) f folded.3.0 all
                  (λ p m q below call. call_at totals m p q below call) folded.3.1),
            ),
          ),
        )

    pub axis_takes : AxisFoldable g ns at a init f → (start : ℕ → Option B) → ((r : ℕ) → r < size_of outer → start r ≡ Some init) → FoldableNumbered g lane column (size_of outer) all by_lane start f
    axis_takes takes start starts totals m now below begins run b x total is =
        let i = index_of ns a on pairs m in
        let numbers = pair_numbers ns a on pairs in
        takes (by_index totals) (listed (index_of ns a on pairs) m) now i
        (λ j h. let on_j = row_rank_below outer j h in begins (row_rank outer j) on_j ∙ starts (row_rank outer j) on_j)
        (numbers.inside m below) (listed_part numbers m below) (pairs_rise ns a on pairs (suc m) below)
        (ran_listed (FoldsAt g at a (by_index totals)) (index_of ns a on pairs) f now m
        (ran_weaker (λ p j q. FoldsBetween g (totals (lane j) (column j)) (by_lane (lane j) (column j)) (totals (lane j) (suc (column j))) p q) (λ p j q. FoldsAt g at a (by_index totals) p (index_of ns a on pairs j) q) f now m
        (λ p j q under call. call_at totals j p q (omega (arith, under, below)) call) run)) b x
        ((λ t. totals (index_rank ns a on pairs m below t) (index_column ns a on pairs m below t)) ∙ total) is

  -- the same of the lanes of a storage
  module _ {layout : Placement} {a : ℕ} {places : LanePlaces} (on : a < length layout.lengths) (by : LieAlong a layout places) (stored : ℕ → Option A) (init : B) (f : F) where
    abbrev ns : List ℕ
    ns = layout.lengths

    abbrev lanes : ℕ
    lanes = size_of (indexed_shape ns a)

    abbrev at : List ℕ → Option A
    at i = inside ns i (stored_at stored (place_of layout.offset layout.strides i))

    abbrev elements : ℕ → ℕ → Option A
    elements r k = stored_at stored (places.place r k)

    same : (r k : ℕ) → r < lanes → k < get_or ns a 0 → elements r k ≡ lane_at at a (index_at (indexed_shape ns a) r) k
    same r k below within = lane_found by stored r k (subst (λ m. r < m) (sym by.lanes) below) (subst (λ n. k < n) (sym by.count) within)

    pub lanes_foldable : AxisFoldable g ns at a init f → FoldableLanes g places.lanes places.count elements init f
    lanes_foldable takes =
        subst (λ m. FoldableLanes g m places.count elements init f) (sym by.lanes)
        (subst (λ n. FoldableLanes g lanes n elements init f) (sym by.count)
        (λ total lane column number pairs.
        foldable_alike g lanes (get_or ns a 0) pairs elements (λ r k. lane_at at a (index_at (indexed_shape ns a) r) k) same (λ r. Some init) f (axis_takes ns a on pairs at init f takes (λ r. Some init) (λ r below. refl))))

    pub lanes_visited : (found : ℕ → Option B) (result : List ℕ → Option B) → ((j : List ℕ) → in_box (indexed_shape ns a) j ≡ true → result j ≡ found (row_rank (indexed_shape ns a) j))
        → AreLanesFolded g places.lanes places.count elements init f found → FoldsAxis g ns at a init f result
    lanes_visited found result results folded =
        let done = subst (λ n. AreLanesFolded g lanes n elements init f found) by.count (subst (λ m. AreLanesFolded g m places.count elements init f found) by.lanes folded) in
        axis_visited ns a on done.pairs at init f (λ r. Some init) (λ r below. refl) found result results
        (folded_alike g lanes (get_or ns a 0) done.pairs elements (λ r k. lane_at at a (index_at (indexed_shape ns a) r) k) same (λ r. Some init) f found done.folded)

  -- where the closure answers what h gives and stays as it is, each lane is folded by h
  pub axis_folded : (ns : List ℕ) (a : ℕ) → a < length ns → (at : List ℕ → Option A) (init : B) (f : F) (result : List ℕ → Option B) → ((i : List ℕ) → in_box (indexed_shape ns a) i ≡ false → result i ≡ None)
      → FoldsAxis g ns at a init f result → (h : B → A → B) → FoldsShownBy g h f → AreFoldedBy h ns at a init result
  axis_folded ns a on at init f result outside folds h by i = by_box (in_box outer i) refl
    where
      outer : List ℕ
      outer = indexed_shape ns a

      totals : List ℕ → ℕ → Option B
      totals = folds.0

      Done : List ℕ → Type 0
      Done j = (b : B) × (x : A) × (totals (remove j a) (get_or j a 0) ≡ Some b) × (at j ≡ Some x) × (totals (remove j a) (suc (get_or j a 0)) ≡ Some (h b x))

      does : (j : List ℕ) (q : F) → in_box ns j ≡ true → FoldsAt g at a totals f j q → (q ≡ f) × Done j
      does j q inbox call = let gives = by call.total call.shown call.answer q call.called in (gives.0, (call.total.now, call.shown.now, call.shows, call.is, call.gives ∙ ap Some gives.1))

      done : (j : List ℕ) → in_box ns j ≡ true → Done j
      done j inbox = done_at_each ns (FoldsAt g at a totals) f Done does folds.3.1.0 folds.3.1.1 folds.3.0 folds.3.1.3 j inbox

      some_same : (x y : B) → Some x ≡ Some y → x ≡ y
      some_same x y e = cc

      total_at : in_box outer i ≡ true → (k : ℕ) → k ≤ get_or ns a 0 → totals i k ≡ Some (fold h init (collected (lane_at at a i) k))
      total_at inbox zero within = folds.1 i inbox
      total_at inbox (suc k) within =
          let long = length-in_box outer i inbox in
          let shorter = length-remove ns a on in
          let fits : a ≤ length i = omega (arith, on, long, shorter) in
          let j = insert i a k in
          let low : nat_lt k (get_or ns a 0) ≡ true = grind (arith, nat_tests, within) in
          let inside_j : in_box ns j ≡ true = in_box-inserted ns i a k on ∙ rw (low, inbox) refl in
          let call = done j inside_j in
          let lane = remove-inserted i a k fits in
          let column = get_or-insert_at i a k 0 fits in
          let before : Some call.0 ≡ Some (fold h init (collected (lane_at at a i) k)) = sym call.2 ∙ ((λ t. totals (lane t) (column t)) ∙ total_at inbox k (omega (arith, within))) in
          let so_far : call.0 ≡ fold h init (collected (lane_at at a i) k) = some_same call.0 (fold h init (collected (lane_at at a i) k)) before in
          (λ t. totals (sym lane t) (suc (sym column t))) ∙ (call.4 ∙ ap Some (ap (λ v. h v call.1) so_far ∙ (sym (fold-append h init (collected (lane_at at a i) k) (call.1 ∷ [])) ∙ ap (λ o. fold h init (collected (lane_at at a i) k ++ cons_option o [])) (sym call.3))))

      by_box : (t : Bool) → in_box outer i ≡ t → result i ≡ inside outer i (Some (fold h init (collected (lane_at at a i) (get_or ns a 0))))
      by_box true e = rw e (folds.2 i e ∙ total_at e (get_or ns a 0) (omega arith))
      by_box false e = rw e (outside i e)

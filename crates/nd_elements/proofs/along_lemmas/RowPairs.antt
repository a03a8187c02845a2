-- Two runs of a region, or of a storage: what calls are shown along the first, and leave along the second.
use Rattle.nd_elements.proofs.NamesFromOtherCrates.{◌≡◌, ℕ, zero, suc, ◌+◌, ◌*◌, ◌^◌, ◌<◌, ◌≤◌, Bool, true, false, List, [], ◌∷◌, length, slice_set, ℤ, pos, ◌+ℤ◌, ◌*ℤ◌, refl, ap, sym, subst, ◌∙◌, arith, Option, None, Some, is_some, not, nat_lt, slice_get, if◌then◌else◌, Bor, MutBor, Mut, mul-le-mul_left, and_parts, nat_tests, in_box, HasCheckedSize, place_of, set_there, set_elsewhere, sums, zero-mul, one-mul, Region, stored_in, merged_rows, overwritten_items, run_written, names, names_not, region_stored, borrow_of, rejoined_region, with_run, HasRun, IsPartWhere, IsAsLong, named_at, named_by, merged_stored, part_holds}
use Rattle.nd_elements.specs.StoragePlaces.{names_place, HoldsAll}
use Rattle.nd_elements.specs.RunBorrowEnds.{HasRunAt, IsOutsideRun, places_run, places_outside_run}
use Rattle.nd_elements.specs.ScopedStorageCalls.{with_named, IsNamedPart}
use Rattle.nd_elements.specs.along.AccumulateAlongAxis.{AreRunsApart, ChangesAfter, ChangesRow, TakesRow, RowChangedBetween, RowChangedInside, run_at, run_of}
use Rattle.nd_elements.proofs.NumberedCalls.{ran_more, ran_weaker}
use Rattle.nd_elements.proofs.elements_lemmas.RunPairs.{side_place}
use Rattle.nd_elements.proofs.BoolAndResultCases.{by_value}

-- the same calls where other words say what is shown, found and left
module _ {F A : Type 0} (g : Mut F (Bor A × (MutBor A × Unit {0})) (Unit {0} × (MutBor A × Unit {0}))) (before shown old found : ℕ → Option A) (n : ℕ) (same : (k : ℕ) → k < n → shown k ≡ before k) (same_old : (k : ℕ) → k < n → found k ≡ old k) where
  pub row_takes_alike : (f : F) → TakesRow g before old n f → TakesRow g shown found n f
  row_takes_alike f takes afterwards r now on run x y shows gives =
      takes afterwards r now on
      (ran_weaker (λ p j q. ChangesAfter g (shown j) (found j) (afterwards j) p q) (λ p j q. ChangesAfter g (before j) (old j) (afterwards j) p q) f now r
      (λ p j q under call.
      let below : j < n = omega (arith, under, on) in
      subst (λ o. ChangesAfter g o (old j) (afterwards j) p q) (same j below) (subst (λ o. ChangesAfter g (shown j) o (afterwards j) p q) (same_old j below) call)) run)
      x y (sym (same r on) ∙ shows) (sym (same_old r on) ∙ gives)

  pub row_changes_alike : (left leaves : ℕ → Option A) → ((k : ℕ) → k < n → left k ≡ leaves k) → (f last : F) → ChangesRow g shown found left f n last → ChangesRow g before old leaves f n last
  row_changes_alike left leaves same_left f last run =
      ran_weaker (λ p j q. ChangesAfter g (shown j) (found j) (left j) p q) (λ p j q. ChangesAfter g (before j) (old j) (leaves j) p q) f last n
      (λ p j q below call.
      subst (λ o. ChangesAfter g o (old j) (leaves j) p q) (same j below)
      (subst (λ o. ChangesAfter g (shown j) o (leaves j) p q) (same_old j below) (subst (λ o. ChangesAfter g (shown j) (found j) o p q) (same_left j below) call))) run

-- one more call of a slice, whose element it leaves
module _ {F A : Type 0} (g : Mut F (Bor A × (MutBor A × Unit {0})) (Unit {0} × (MutBor A × Unit {0}))) (before : ℕ → Option A) (old now : List A) (f : F) (nth : ℕ) (y : A) (kept : (j : ℕ) → nth ≤ j → slice_get now j ≡ slice_get old j) where
  pub row_more : (p q : F) → nth < length now → ChangesRow g before (slice_get old) (slice_get now) f nth p → ChangesAfter g (before nth) (slice_get now nth) (Some y) p q → ChangesRow g before (slice_get old) (slice_get (slice_set now nth y)) f (nth + 1) q
  row_more p q below run call =
      let new = slice_get (slice_set now nth y) in
      ran_more (λ p r q. ChangesAfter g (before r) (slice_get old r) (new r) p q) f p q nth
      (ran_weaker (λ p r q. ChangesAfter g (before r) (slice_get old r) (slice_get now r) p q) (λ p r q. ChangesAfter g (before r) (slice_get old r) (new r) p q) f p nth
      (λ p j q under step. subst (λ o. ChangesAfter g (before j) (slice_get old j) o p q) (sym (set_elsewhere now nth j y (λ e. absurd (omega (arith, under, e))))) step) run)
      (subst (λ o. ChangesAfter g (before nth) (slice_get old nth) o p q) (sym (set_there now nth y below)) (subst (λ o. ChangesAfter g (before nth) o (Some y) p q) (kept nth (omega arith)) call))

  pub row_kept : (j : ℕ) → nth + 1 ≤ j → slice_get (slice_set now nth y) j ≡ slice_get old j
  row_kept j later = set_elsewhere now nth j y (λ e. absurd (omega (arith, later, e))) ∙ kept j (omega (arith, later))

-- the places of a run, as those of a layout with one axis
module _ (p n : ℕ) (t : ℤ) (one : t ≡ pos 1) where
  in_run : (k : ℕ) → k < n → in_box (n ∷ []) (k ∷ []) ≡ true
  in_run k under = grind (arith, nat_tests, under)

  along_run : (k : ℕ) → place_of p (t ∷ []) (k ∷ []) ≡ pos (p + k)
  along_run k = by_step k ∙ side_place p k t one
    where
      by_step : (k : ℕ) → place_of p (t ∷ []) (k ∷ []) ≡ pos p +ℤ (pos k *ℤ t)
      by_step k = omega (arith, sums)

  names_run : (k : ℕ) → k < n → names p (n ∷ []) (t ∷ []) (p + k) ≡ true
  names_run k below = named_at p (n ∷ []) (t ∷ []) (p + k) (k ∷ []) (in_run k below) (along_run k)

  number_same : (a b : ℕ) → pos a ≡ pos b → a ≡ b
  number_same a b e = cc

  run_names : (i : ℕ) → names p (n ∷ []) (t ∷ []) i ≡ true → (k : ℕ) × (k < n) × (i ≡ p + k)
  run_names i named = let at = named_by p (n ∷ []) (t ∷ []) i named in by_index at.0 at.1 at.2
    where
      by_index : (l : List ℕ) → in_box (n ∷ []) l ≡ true → place_of p (t ∷ []) l ≡ pos i → (k : ℕ) × (k < n) × (i ≡ p + k)
      by_index [] h e = absurd cc
      by_index (k ∷ []) h e = (k, grind (arith, nat_tests, h), number_same i (p + k) (sym e ∙ along_run k))
      by_index (k ∷ j ∷ js) h e = absurd (grind (arith, nat_tests, h))

  names_none : (i : ℕ) → ((k : ℕ) → k < n → i ≡ p + k → ⊥) → names p (n ∷ []) (t ∷ []) i ≡ false
  names_none i nowhere = by_value (λ b. b ≡ false) (names p (n ∷ []) (t ∷ []) i) (λ e. let at = run_names i e in absurd (nowhere at.0 at.1 at.2)) (λ e. refl)

  module _ {A : Type 0} (d x y : Region A) (q : ℕ) (apart : AreRunsApart p q n) (first : IsPartWhere (names p (n ∷ []) (t ∷ [])) d x) (second : IsPartWhere (names_not p (n ∷ []) (t ∷ [])) d y) where
    first_has : (k : ℕ) → k < n → run_at x p k ≡ run_at d p k
    first_has k below = (λ i. stored_in (first.0 i) (first.1 i) (p + k)) ∙ part_holds (names p (n ∷ []) (t ∷ [])) d.items d.held (p + k) (names_run k below)

    not_first : (k : ℕ) → k < n → names p (n ∷ []) (t ∷ []) (q + k) ≡ false
    not_first k below = names_none (q + k) (λ j under e. apart j k under below (sym e))

    second_has : (k : ℕ) → k < n → run_at y q k ≡ run_at d q k
    second_has k below = (λ i. stored_in (second.0 i) (second.1 i) (q + k)) ∙ part_holds (names_not p (n ∷ []) (t ∷ [])) d.items d.held (q + k) (ap not (not_first k below))

    -- the second run written, the parts are the region with it
    module _ (ws : List A) (s u new : Region A) (long : length ws ≡ n) (kept : s ≡ x) (written : u ≡ with_run y q n ws) (as_long : IsAsLong y u) (is : new ≡ rejoined_region d x s u) (holds : HasRun d q n) where
      abbrev row : List A
      row = overwritten_items d.items (run_written d.items q n ws)

      row_is : u.items ≡ row
      row_is = ap (λ r. r.items) written ∙ (λ i. overwritten_items (second.0 i) (run_written (second.0 i) q n ws))

      same_long : length d.items ≡ length row
      same_long = sym (ap length (sym row_is) ∙ (as_long ∙ ap length second.0))

      back : (i : ℕ) → region_stored new i ≡ if names p (n ∷ []) (t ∷ []) i then region_stored d i else stored_in row d.held i
      back i =
          ap (λ r. region_stored r i) is
          ∙ ((λ j. stored_in (merged_rows (first.1 j) ((ap (λ r. r.items) kept ∙ first.0) j) (row_is j)) d.held i) ∙ merged_stored (names p (n ∷ []) (t ∷ [])) d.held d.items row i same_long)

      pub row_back : (k : ℕ) → k < n → slice_get ws k ≡ run_at new q k
      row_back k below = sym (back (q + k) ∙ (ap (λ (b : Bool). if b then region_stored d (q + k) else stored_in row d.held (q + k)) (not_first k below) ∙ places_run d.items d.held q n ws holds long k below))

      pub row_outside : (i : ℕ) → IsOutsideRun q n i → region_stored new i ≡ region_stored d i
      row_outside i outside = back i ∙ by_name (names p (n ∷ []) (t ∷ []) i)
        where
          by_name : (b : Bool) → (if b then region_stored d i else stored_in row d.held i) ≡ region_stored d i
          by_name true = refl
          by_name false = places_outside_run d.items d.held q n ws holds long i outside

  module _ {F A : Type 0} (g : Mut F (Bor A × (MutBor A × Unit {0})) (Unit {0} × (MutBor A × Unit {0}))) (d : Region A) (q : ℕ) (apart : AreRunsApart p q n) (f : F) where
    pub row_asks : HasRun d p n → HasRun d q n → TakesRow g (run_at d p) (run_at d q) n f → (x y : Region A) → IsPartWhere (names p (n ∷ []) (t ∷ [])) d x → IsPartWhere (names_not p (n ∷ []) (t ∷ [])) d y
        → HasRun x p n × HasRun y q n × TakesRow g (run_at x p) (run_at y q) n f
    row_asks at_p at_q takes x y first second = (
      (λ k below. ap is_some (first_has d x y q apart first second k below) ∙ at_p k below),
      (λ k below. ap is_some (second_has d x y q apart first second k below) ∙ at_q k below),
      row_takes_alike g (run_at d p) (run_at x p) (run_at d q) (run_at y q) n (first_has d x y q apart first second) (second_has d x y q apart first second) f takes,
    )

    pub row_done : HasRun d q n → (x y s u : Region A) (f' : F) (new : Region A) → IsPartWhere (names p (n ∷ []) (t ∷ [])) d x → IsPartWhere (names_not p (n ∷ []) (t ∷ [])) d y → RowChangedBetween g x p y q n f (s, u, f') → new ≡ rejoined_region d x s u → IsAsLong y u
        → RowChangedInside g d p q n f (new, f')
    row_done holds x y s u f' new first second done is as_long = (
      ap borrow_of is,
      row_changes_alike g (run_at d p) (run_at x p) (run_at d q) (run_at y q) n (first_has d x y q apart first second) (second_has d x y q apart first second) (slice_get done.0) (run_at new q)
          (row_back d x y q apart first second done.0 s u new done.1 done.2 done.3 as_long is holds) f f' done.4,
      row_outside d x y q apart first second done.0 s u new done.1 done.2 done.3 as_long is holds,
    )

-- two rows are few enough for a layout where they are two of so many
pub rows_checked : (n : ℕ) → 2 * n < 2 ^ 63 → HasCheckedSize (2 ∷ n ∷ [])
rows_checked zero small = omega arith
rows_checked (suc n) small = omega (arith, small)

pub two_of : (n count : ℕ) → 1 < count → n * count < 2 ^ 63 → 2 * n < 2 ^ 63
two_of n count more small = let least = mul-le-mul_left {m = 2} {n = count} n (omega (arith, more)) in omega (arith, small, least)

-- two rows of a storage, lent as a part of it
module _ (p q n : ℕ) (s t u : ℤ) (after : pos q ≡ pos p +ℤ s) (strides : t ≡ s) (one : u ≡ pos 1) where
  rows_at : (k : ℕ) → place_of p (t ∷ u ∷ []) (0 ∷ k ∷ []) ≡ pos (p + k)
  rows_at k = by_step k ∙ side_place p k u one
    where
      by_step : (k : ℕ) → place_of p (t ∷ u ∷ []) (0 ∷ k ∷ []) ≡ pos p +ℤ (pos k *ℤ u)
      by_step k = let none = zero-mul t in omega (arith, sums, none)

  next_at : (k : ℕ) → place_of p (t ∷ u ∷ []) (1 ∷ k ∷ []) ≡ pos (q + k)
  next_at k = by_step k ∙ side_place q k u one
    where
      by_step : (k : ℕ) → place_of p (t ∷ u ∷ []) (1 ∷ k ∷ []) ≡ pos q +ℤ (pos k *ℤ u)
      by_step k = let single = one-mul t in omega (arith, sums, single, strides, after)

  in_rows : (j k : ℕ) → j < 2 → k < n → in_box (2 ∷ n ∷ []) (j ∷ k ∷ []) ≡ true
  in_rows j k low below = grind (arith, nat_tests, low, below)

  abbrev pub rows_named : ℕ → Bool
  rows_named = names p (2 ∷ n ∷ []) (t ∷ u ∷ [])

  first_named : (k : ℕ) → k < n → rows_named (p + k) ≡ true
  first_named k below = named_at p (2 ∷ n ∷ []) (t ∷ u ∷ []) (p + k) (0 ∷ k ∷ []) (in_rows 0 k (omega arith) below) (rows_at k)

  second_named : (k : ℕ) → k < n → rows_named (q + k) ≡ true
  second_named k below = named_at p (2 ∷ n ∷ []) (t ∷ u ∷ []) (q + k) (1 ∷ k ∷ []) (in_rows 1 k (omega arith) below) (next_at k)

  -- what is true of all numbers of both is true of each index' place
  pub rows_pass : (test : ℤ → Bool) → ((k : ℕ) → k < n → test (pos (p + k)) ≡ true) → ((k : ℕ) → k < n → test (pos (q + k)) ≡ true) → (i : List ℕ) → in_box (2 ∷ n ∷ []) i ≡ true → test (place_of p (t ∷ u ∷ []) i) ≡ true
  rows_pass test at_p at_q [] h = cc
  rows_pass test at_p at_q (j ∷ []) h = absurd (grind (arith, nat_tests, h))
  rows_pass test at_p at_q (zero ∷ k ∷ []) h = ap test (rows_at k) ∙ at_p k (grind (arith, nat_tests, h))
  rows_pass test at_p at_q (suc zero ∷ k ∷ []) h = ap test (next_at k) ∙ at_q k (grind (arith, nat_tests, h))
  rows_pass test at_p at_q (suc (suc j) ∷ k ∷ []) h = let off : nat_lt (suc (suc j)) 2 ≡ true = (and_parts (nat_lt (suc (suc j)) 2) (in_box (n ∷ []) (k ∷ [])) h).0 in absurd (grind (arith, nat_tests, off))
  rows_pass test at_p at_q (j ∷ k ∷ l ∷ ls) h = absurd (grind (arith, nat_tests, h))

  module _ {A : Type 0} (old : ℕ → Option A) (at_p : HasRunAt old p n) (at_q : HasRunAt old q n) where
    pub rows_held : HoldsAll old p (2 ∷ n ∷ []) (t ∷ u ∷ [])
    rows_held = rows_pass (names_place old) at_p at_q

    module _ (x : Region A) (part : IsNamedPart old p (2 ∷ n ∷ []) (t ∷ u ∷ []) x) where
      pub first_row : (k : ℕ) → k < n → run_at x p k ≡ run_of old p k
      first_row k below = part (p + k) ∙ ap (λ (b : Bool). if b then old (p + k) else None) (first_named k below)

      pub second_row : (k : ℕ) → k < n → run_at x q k ≡ run_of old q k
      second_row k below = part (q + k) ∙ ap (λ (b : Bool). if b then old (q + k) else None) (second_named k below)

    module _ {F : Type 0} (g : Mut F (Bor A × (MutBor A × Unit {0})) (Unit {0} × (MutBor A × Unit {0}))) (f : F) where
      pub rows_ask : AreRunsApart p q n → TakesRow g (run_of old p) (run_of old q) n f → (x : Region A) → IsNamedPart old p (2 ∷ n ∷ []) (t ∷ u ∷ []) x
          → AreRunsApart p q n × (HasRun x p n × HasRun x q n) × TakesRow g (run_at x p) (run_at x q) n f
      rows_ask apart takes x part = (
        apart,
        ((λ k below. ap is_some (first_row x part k below) ∙ at_p k below), (λ k below. ap is_some (second_row x part k below) ∙ at_q k below)),
        row_takes_alike g (run_of old p) (run_at x p) (run_of old q) (run_at x q) n (first_row x part) (second_row x part) f takes,
      )

      module _ (new : ℕ → Option A) (x r : Region A) (f' : F) (part : IsNamedPart old p (2 ∷ n ∷ []) (t ∷ u ∷ []) x) (done : RowChangedInside g x p q n f (r, f')) (back : (i : ℕ) → new i ≡ with_named old p (2 ∷ n ∷ []) (t ∷ u ∷ []) (region_stored r) i) where
        pub rows_changed : ChangesRow g (run_of old p) (run_of old q) (run_of new q) f n f'
        rows_changed =
            row_changes_alike g (run_of old p) (run_at x p) (run_of old q) (run_at x q) n (first_row x part) (second_row x part) (run_at r q) (run_of new q)
            (λ k below. sym (back (q + k) ∙ ap (λ (b : Bool). if b then region_stored r (q + k) else old (q + k)) (second_named k below))) f f' done.1

        pub rows_left : (i : ℕ) → IsOutsideRun q n i → new i ≡ old i
        rows_left i outside = back i ∙ by_value (λ b. (if b then region_stored r i else old i) ≡ old i) (rows_named i) (λ e. done.2 i outside ∙ (part i ∙ ap (λ (b : Bool). if b then old i else None) e)) (λ e. refl)

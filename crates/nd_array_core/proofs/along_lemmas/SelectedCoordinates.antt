-- Chosen coordinates of the first axis, one after the other, and of any axis by an exchange of two.
use Rattle.nd_array_core.proofs.NamesFromOtherCrates.{◌≡◌, ℕ, suc, ◌+◌, ◌*◌, ◌<◌, ◌≤◌, Bool, true, false, List, [], ◌∷◌, ◌++◌, length, set, replicate, ℤ, pos, refl, ap, sym, ◌∙◌, subst, arith, ⊎_elim, length-append, mul-le-mul_right, cases_lt, cases_eq, nat_tests, ext_get_or, length-set, length-replicate, get_or-set_same, get_or-set_other, length-swap, swapped_from_swap, All-get_or, Option, None, is_some, slice_get, slice_index, if◌then◌else◌, swap, All, in_box, size_of, row_rank, index_at, HasCheckedSize, collapsed_shape, collapsed_index, place_of, in_box-index_at, in_box-cons, row_rank_below, length-in_box, got_before, got_after, IsStep, swap_back, swap_is_step, Meaning, inside, row_major_elements, stored_at, HoldsAll, meaning_count, meaning_get}
use Rattle.nd_array_core.specs.along.SelectedCoordinates.{selected_shape, selected_index, AreCoordinates, ListsSelected}

-- ---- sizes
pub rows_size : (ns : List ℕ) (m : ℕ) → 0 < length ns → size_of (set ns 0 m) ≡ m * size_of (collapsed_shape ns 0)
rows_size [] m some = absurd (omega (arith, some))
rows_size (n ∷ ns) m some = let one : size_of ns ≡ 1 * size_of ns = omega arith in ap (λ w. m * w) one

-- what is left of the room holds one row more
pub row_fits : (n m w : ℕ) → n < m → n * w + w ≤ m * w
row_fits n m w below =
    let more : suc n * w ≤ m * w = mul-le-mul_right w (let b : suc n ≤ m = omega (arith, below) in b) in
    let sum : suc n * w ≡ n * w + w = grind arith in
    omega (arith, more, sum)

-- a choice of something of a row with an element has one
pub row_is_some : (ns ms indices : List ℕ) (n : ℕ) → 0 < length ns → n < length indices → ms ≡ collapsed_shape ns 0 → 0 < size_of ms → 0 < size_of (selected_shape ns 0 indices)
row_is_some ns ms indices n axes within row some =
    let size = rows_size ns (length indices) axes in
    let fits = row_fits n (length indices) (size_of (collapsed_shape ns 0)) within in
    let one : 0 < size_of (collapsed_shape ns 0) = subst (λ s. 0 < size_of s) row some in
    omega (arith, size, fits, one)

module _ {A : Type 0} where
  -- ---- one coordinate after the other
  module _ (ns : List ℕ) (at : List ℕ → Option A) (indices : List ℕ) where
    pub selected_more : (n : ℕ) (items new : List A) (row : Meaning A) → row.shape ≡ collapsed_shape ns 0
        → ((i : List ℕ) → row.at i ≡ inside (collapsed_shape ns 0) i (at (collapsed_index 0 (slice_index indices n) i)))
        → ((i : List ℕ) → in_box row.shape i ≡ true → is_some (row.at i) ≡ true)
        → new ≡ items ++ row_major_elements row → ListsSelected ns at indices n items → ListsSelected ns at indices (n + 1) new
    selected_more n items new row shape shows has put so_far = (long, each)
      where
        w : ℕ
        w = size_of (collapsed_shape ns 0)

        sum : (n + 1) * w ≡ n * w + w
        sum = grind arith

        count : length (row_major_elements row) ≡ w
        count = meaning_count row has ∙ ap size_of shape

        long : length new ≡ (n + 1) * w
        long =
            let whole = length-append items (row_major_elements row) in
            let before = so_far.0 in
            ap length put ∙ omega (arith, whole, before, count, sum)

        each : (k : ℕ) (i : List ℕ) → k < n + 1 → in_box (collapsed_shape ns 0) i ≡ true → slice_get new (k * w + row_rank (collapsed_shape ns 0) i) ≡ at (collapsed_index 0 (slice_index indices k) i)
        each k i below h = ap (λ xs. slice_get xs (k * w + row_rank (collapsed_shape ns 0) i)) put ∙ ⊎_elim earlier here (cases_lt k n)
          where
            earlier : k < n → slice_get (items ++ row_major_elements row) (k * w + row_rank (collapsed_shape ns 0) i) ≡ at (collapsed_index 0 (slice_index indices k) i)
            earlier less =
                let fits = row_fits k n w less in
                let rank = row_rank_below (collapsed_shape ns 0) i h in
                let before = so_far.0 in
                got_before items (row_major_elements row) (k * w + row_rank (collapsed_shape ns 0) i) (omega (arith, fits, rank, before)) ∙ so_far.1 k i less h

            here : n ≤ k → slice_get (items ++ row_major_elements row) (k * w + row_rank (collapsed_shape ns 0) i) ≡ at (collapsed_index 0 (slice_index indices k) i)
            here not_less =
                let same : k ≡ n = omega (arith, not_less, below) in
                let box : in_box row.shape i ≡ true = ap (λ s. in_box s i) shape ∙ h in
                rw same
                (got_after items (row_major_elements row) (n * w) (row_rank (collapsed_shape ns 0) i) so_far.0
                ∙ ap (λ s. slice_get (row_major_elements row) (row_rank s i)) (sym shape)
                ∙ meaning_get row has i box
                ∙ shows i
                ∙ rw h refl)

  -- all of them: what stands at the row-major rank of an index
  pub selected_all : (ns : List ℕ) (at : List ℕ → Option A) (indices : List ℕ) (items : List A) → 0 < length ns → ListsSelected ns at indices (length indices) items
      → (i : List ℕ) → inside (selected_shape ns 0 indices) i (slice_get items (row_rank (selected_shape ns 0 indices) i)) ≡ inside (selected_shape ns 0 indices) i (at (selected_index 0 indices i))
  selected_all [] at indices items some all i = absurd (omega (arith, some))
  selected_all (n ∷ ns) at indices items some all i = by_test (in_box (length indices ∷ ns) i) refl
    where
      there : (i : List ℕ) → in_box (length indices ∷ ns) i ≡ true → slice_get items (row_rank (length indices ∷ ns) i) ≡ at (selected_index 0 indices i)
      there [] h = absurd cc
      there (k ∷ is) h =
          let parts = in_box-cons (length indices) ns k is h in
          let same : k * size_of ns + row_rank ns is ≡ k * (1 * size_of ns) + (0 * size_of ns + row_rank ns is) =
          let one : size_of ns ≡ 1 * size_of ns = omega arith in
          let none : row_rank ns is ≡ 0 * size_of ns + row_rank ns is = omega arith in
          λ j. k * one j + none j in
          ap (slice_get items) same ∙ all.1 k (0 ∷ is) parts.0 parts.1

      by_test : (t : Bool) → in_box (length indices ∷ ns) i ≡ t → inside (length indices ∷ ns) i (slice_get items (row_rank (length indices ∷ ns) i)) ≡ inside (length indices ∷ ns) i (at (selected_index 0 indices i))
      by_test true h = ap (inside (length indices ∷ ns) i) (there i h)
      by_test false h = rw h refl

  -- the array over them
  pub ordered_selected : (ns ds ms : List ℕ) (at seen : List ℕ → Option A) (indices : List ℕ) (items stored : List A) → 0 < length ns → ds ≡ ns → ms ≡ selected_shape ds 0 indices → stored ≡ items
      → ((i : List ℕ) → seen i ≡ inside ms i (slice_get stored (row_rank ms i))) → ListsSelected ns at indices (length indices) items
      → (i : List ℕ) → seen i ≡ inside (selected_shape ns 0 indices) i (at (selected_index 0 indices i))
  ordered_selected ns ds ms at seen indices items stored some raw put same shows all i =
      let lengths : ms ≡ selected_shape ns 0 indices = put ∙ ap (λ us. selected_shape us 0 indices) raw in
      shows i ∙ (λ k. inside (lengths k) i (slice_get (same k) (row_rank (lengths k) i))) ∙ selected_all ns at indices items some all i

  -- ---- an array's own words
  pub box_has : (stored : ℕ → Option A) (first : ℕ) (ns : List ℕ) (ss : List ℤ) → HoldsAll stored first ns ss → (i : List ℕ) → in_box ns i ≡ true → is_some (inside ns i (stored_at stored (place_of first ss i))) ≡ true
  box_has stored first ns ss holds i h = rw h (holds i h)

  -- a row of what shows an array
  pub row_shown : (ns ms : List ℕ) (at seen row : List ℕ → Option A) (k : ℕ) → ms ≡ ns → ((i : List ℕ) → seen i ≡ at i) → ((i : List ℕ) → row i ≡ inside (collapsed_shape ms 0) i (seen (collapsed_index 0 k i)))
      → (i : List ℕ) → row i ≡ inside (collapsed_shape ns 0) i (at (collapsed_index 0 k i))
  row_shown ns ms at seen row k same alike shows i = shows i ∙ (λ j. inside (collapsed_shape (same j) 0) i (alike (collapsed_index 0 k i) j))

-- ---- any axis: exchanged with the first, and exchanged back
module _ (a : ℕ) where
  -- what is put at the axis is at the first one after the exchange
  swap_set : (xs : List ℕ) (v : ℕ) → a < length xs → swap (set xs a v) 0 a ≡ set (swap xs 0 a) 0 v
  swap_set xs v on =
      let first : 0 < length xs = omega (arith, on) in
      let put = set xs a v in
      let long : length put ≡ length xs = length-set xs a v in
      let exchanged = swapped_from_swap xs (swap xs 0 a) 0 a 0 first on refl in
      let moved = swapped_from_swap put (swap put 0 a) 0 a 0 (omega (arith, long, first)) (omega (arith, long, on)) refl in
      let ys = swap xs 0 a in
      let as_many : length ys ≡ length xs = length-swap xs 0 a in
      let start : 0 < length ys = omega (arith, as_many, first) in
      ext_get_or 0 (swap put 0 a) (set ys 0 v) (length-swap put 0 a ∙ (long ∙ (sym as_many ∙ sym (length-set ys 0 v))))
      (λ k h. ⊎_elim
      (λ (at_first : k ≡ 0). rw at_first (moved.0 ∙ (get_or-set_same xs a v 0 on ∙ sym (get_or-set_same ys 0 v 0 start))))
      (λ (not_first : k ≡ 0 → ⊥). ⊎_elim
      (λ (at_axis : k ≡ a).
      let back : 0 ≡ a → ⊥ = λ e. not_first (at_axis ∙ sym e) in
      let apart : a ≡ 0 → ⊥ = λ e. not_first (at_axis ∙ e) in
      rw at_axis (moved.1 ∙ (get_or-set_other xs a 0 v 0 back ∙ (sym exchanged.1 ∙ sym (get_or-set_other ys 0 a v 0 apart)))))
      (λ (not_axis : k ≡ a → ⊥).
      moved.2 k not_first not_axis ∙ (get_or-set_other xs a k v 0 not_axis ∙ (sym (exchanged.2 k not_first not_axis) ∙ sym (get_or-set_other ys 0 k v 0 not_first))))
      (cases_eq k a))
      (cases_eq k 0))

  pub swap_set_back : (xs : List ℕ) (v : ℕ) → a < length xs → swap (set (swap xs 0 a) 0 v) 0 a ≡ set xs a v
  swap_set_back xs v on =
      let long : length (set xs a v) ≡ length xs = length-set xs a v in
      ap (λ ys. swap ys 0 a) (sym (swap_set xs v on)) ∙ swap_back (set xs a v) 0 a (omega (arith, long, on)) (omega (arith, long, on))

  swapped_first : (xs : List ℕ) → a < length xs → slice_index (swap xs 0 a) 0 ≡ slice_index xs a
  swapped_first xs on = (swapped_from_swap xs (swap xs 0 a) 0 a 0 (omega (arith, on)) on refl).0

  exchange_step : (ns : List ℕ) → a < length ns → IsStep 0 ns (replicate (length ns) (pos 0)) 0 (swap ns 0 a) (swap (replicate (length ns) (pos 0)) 0 a) (λ i. swap i 0 a)
  exchange_step ns on = swap_is_step 0 ns (replicate (length ns) (pos 0)) 0 a (length-replicate (length ns) (pos 0)) (omega (arith, on)) on

  -- what is asked of a choice along the axis holds of the choice along the first
  pub turned_coordinates : (ns indices : List ℕ) → a < length ns → AreCoordinates ns a indices → AreCoordinates (swap ns 0 a) 0 indices
  turned_coordinates ns indices on each = subst (λ n. All (λ k. k < n) indices) (sym (swapped_first ns on)) each

  pub turned_checked : (ns indices : List ℕ) → a < length ns → HasCheckedSize (selected_shape ns a indices) → HasCheckedSize (selected_shape (swap ns 0 a) 0 indices)
  turned_checked ns indices on few =
      let long : length (selected_shape ns a indices) ≡ length ns = length-set ns a (length indices) in
      subst HasCheckedSize (swap_set ns (length indices) on) ((exchange_step (selected_shape ns a indices) (omega (arith, long, on))).checked few)

-- a chosen coordinate of the first axis lies in the box
coordinate_in : (ns indices i : List ℕ) → 0 < length ns → AreCoordinates ns 0 indices → in_box (selected_shape ns 0 indices) i ≡ true → in_box ns (selected_index 0 indices i) ≡ true
coordinate_in [] indices i some each h = absurd (omega (arith, some))
coordinate_in (n ∷ ns) indices [] some each h = absurd cc
coordinate_in (n ∷ ns) indices (k ∷ is) some each h =
    let parts = in_box-cons (length indices) ns k is h in
    let below : slice_index indices k < n = All-get_or (λ c. c < n) indices k 0 parts.0 each in
    grind (arith, nat_tests, below, parts)

module _ {A : Type 0} (a : ℕ) (ns indices : List ℕ) (on : a < length ns) (each : AreCoordinates ns a indices) (at : List ℕ → Option A) where
  -- the element at an index of the choice along the axis
  pub turned_element : (turned chosen result : List ℕ → Option A)
      → ((i : List ℕ) → turned i ≡ inside (swap ns 0 a) i (at (swap i 0 a)))
      → ((i : List ℕ) → chosen i ≡ inside (selected_shape (swap ns 0 a) 0 indices) i (turned (selected_index 0 indices i)))
      → ((i : List ℕ) → result i ≡ inside (swap (selected_shape (swap ns 0 a) 0 indices) 0 a) i (chosen (swap i 0 a)))
      → (i : List ℕ) → result i ≡ inside (selected_shape ns a indices) i (at (selected_index a indices i))
  turned_element turned chosen result by_turned by_chosen by_result i =
      by_result i ∙ ap (λ ms. inside ms i (chosen (swap i 0 a))) (swap_set_back a ns (length indices) on) ∙ by_test (in_box (selected_shape ns a indices) i) refl
    where
      there : in_box (selected_shape ns a indices) i ≡ true → chosen (swap i 0 a) ≡ at (selected_index a indices i)
      there h =
          let ts = swap ns 0 a in
          let ms = selected_shape ts 0 indices in
          let j = swap i 0 a in
          let count : length (selected_shape ns a indices) ≡ length ns = length-set ns a (length indices) in
          let long : length i ≡ length ns = length-in_box (selected_shape ns a indices) i h ∙ count in
          let on_i : a < length i = omega (arith, long, on) in
          let many : length ts ≡ length ns = length-swap ns 0 a in
          let as_many : length ms ≡ length ns = length-set ts 0 (length indices) ∙ many in
          let box : in_box (swap ms 0 a) i ≡ true = ap (λ s. in_box s i) (swap_set_back a ns (length indices) on) ∙ h in
          let within : in_box ms j ≡ true = (exchange_step a ms (omega (arith, as_many, on))).within i box in
          let inner : in_box ts (selected_index 0 indices j) ≡ true = coordinate_in ts indices j (omega (arith, many, on)) (turned_coordinates a ns indices on each) within in
          let first : slice_index j 0 ≡ slice_index i a = swapped_first a i on_i in
          by_chosen j ∙ ap (λ t. if t then turned (selected_index 0 indices j) else None) within
          ∙ by_turned (selected_index 0 indices j) ∙ ap (λ t. if t then at (swap (selected_index 0 indices j) 0 a) else None) inner
          ∙ ap at (swap_set_back a i (slice_index indices (slice_index j 0)) on_i)
          ∙ ap (λ k. at (set i a (slice_index indices k))) first

      by_test : (t : Bool) → in_box (selected_shape ns a indices) i ≡ t → inside (selected_shape ns a indices) i (chosen (swap i 0 a)) ≡ inside (selected_shape ns a indices) i (at (selected_index a indices i))
      by_test true h = ap (inside (selected_shape ns a indices) i) (there h)
      by_test false h = rw h refl

  -- the same by the shapes and elements of a view, of the view turned, and of what was chosen there
  pub selected_by_turns : (vs ts ms : List ℕ) (seen turned chosen result : List ℕ → Option A) → vs ≡ ns → ((i : List ℕ) → seen i ≡ at i)
      → ts ≡ swap vs 0 a → ((i : List ℕ) → turned i ≡ inside (swap vs 0 a) i (seen (swap i 0 a)))
      → ms ≡ selected_shape ts 0 indices → ((i : List ℕ) → chosen i ≡ inside (selected_shape ts 0 indices) i (turned (selected_index 0 indices i)))
      → ((i : List ℕ) → result i ≡ inside (swap ms 0 a) i (chosen (swap i 0 a)))
      → (i : List ℕ) → result i ≡ inside (selected_shape ns a indices) i (at (selected_index a indices i))
  selected_by_turns vs ts ms seen turned chosen result same alike turned_shape by_turned chosen_shape by_chosen by_result =
      let t : ts ≡ swap ns 0 a = turned_shape ∙ ap (λ us. swap us 0 a) same in
      let m : ms ≡ selected_shape (swap ns 0 a) 0 indices = chosen_shape ∙ ap (λ us. selected_shape us 0 indices) t in
      turned_element turned chosen result
      (λ i. by_turned i ∙ (λ k. inside (swap (same k) 0 a) i (alike (swap i 0 a) k)))
      (λ i. by_chosen i ∙ ap (λ us. inside (selected_shape us 0 indices) i (turned (selected_index 0 indices i))) t)
      (λ i. by_result i ∙ ap (λ us. inside (swap us 0 a) i (chosen (swap i 0 a))) m)

-- the shapes on the way
pub turned_shape_checked : (a : ℕ) (ns vs ts indices : List ℕ) → a < length ns → vs ≡ ns → ts ≡ swap vs 0 a → HasCheckedSize (selected_shape ns a indices) → HasCheckedSize (selected_shape ts 0 indices)
turned_shape_checked a ns vs ts indices on same turned few =
    subst (λ us. HasCheckedSize (selected_shape us 0 indices)) (sym (turned ∙ ap (λ us. swap us 0 a) same)) (turned_checked a ns indices on few)

pub selected_shape_back : (a : ℕ) (ns vs ts ms ls indices : List ℕ) → a < length ns → vs ≡ ns → ts ≡ swap vs 0 a → ms ≡ selected_shape ts 0 indices → ls ≡ swap ms 0 a → ls ≡ selected_shape ns a indices
selected_shape_back a ns vs ts ms ls indices on same turned chosen back =
    back ∙ ap (λ us. swap us 0 a) (chosen ∙ ap (λ us. selected_shape us 0 indices) (turned ∙ ap (λ us. swap us 0 a) same)) ∙ swap_set_back a ns (length indices) on

-- there is something along the axis where there is along the first
pub turned_is_some : (a : ℕ) (ns vs ts indices : List ℕ) → a < length ns → vs ≡ ns → ts ≡ swap vs 0 a → 0 < size_of (selected_shape ts 0 indices) → 0 < size_of (selected_shape ns a indices)
turned_is_some a ns vs ts indices on same turned some =
    let ms = selected_shape ns a indices in
    let long : length ms ≡ length ns = length-set ns a (length indices) in
    let chosen : swap ms 0 a ≡ selected_shape ts 0 indices = swap_set a ns (length indices) on ∙ sym (ap (λ us. selected_shape us 0 indices) (turned ∙ ap (λ us. swap us 0 a) same)) in
    let i = index_at (selected_shape ts 0 indices) 0 in
    let box : in_box (swap ms 0 a) i ≡ true = ap (λ s. in_box s i) chosen ∙ in_box-index_at (selected_shape ts 0 indices) 0 some in
    let below = row_rank_below ms (swap i 0 a) ((exchange_step a ms (omega (arith, long, on))).within i box) in
    omega (arith, below)

-- The elements of arrays, run by run: those of their concatenation in row-major order.
use Rattle.std.proofs.Common.{◌≡◌, ℕ, zero, suc, ◌+◌, ◌-◌, ◌*◌, ◌<◌, ◌≤◌, Bool, true, false, cond, ltb, List, [], ◌∷◌, ◌++◌, length, get_or, set, take, drop, Option, None, Some, refl, ap, sym, subst, ◌∙◌, arith, ⊎_elim}
use Rattle.std.specs.Prelude.{slice_get}
use Rattle.std.proofs.Math.Nat.{add-mul, mul-le-mul_right}
use Rattle.std.proofs.lemmas.Bool.{cases_lt, lt-ltb, le-ltb, and_from, and_parts}
use Rattle.std.proofs.lemmas.List.{length-append, length-set, length-take, length-drop, set-set, set-get_or, get_or-set_same, flat_map_more}
use Rattle.std.proofs.lemmas.List.Sums.{sum_by-cons}
use Rattle.std.proofs.lemmas.Option.{slice_get_within}
use Rattle.std.proofs.Math.Numerals.{suc-eq-add-one}
use Rattle.std.proofs.Math.Arith.{digits_lt}
use Rattle.nd_shape_and_slice.specs.declared.errors.ErrorKind.TheVariants.{Unsupported}
use Rattle.nd_shape_and_slice.specs.ShapesAndIndexOrders.{in_box, index_at, row_rank, size_of}
use Rattle.nd_shape_and_slice.proofs.BoxesByCoordinate.{coordinate_below}
use Rattle.nd_shape_and_slice.proofs.RowMajorNumberInverse.{in_box-index_at, row_rank-index_at}
use Rattle.nd_shape_and_slice.proofs.RowMajor.{length-in_box, row_rank_below}
use Rattle.nd_shape_and_slice.proofs.IndexesWithChangedCoordinates.{in_box-set}
use Rattle.nd_shape_and_slice.proofs.ListEdits.{got_before, got_after, take_next, got_taken, got_dropped}
use Rattle.nd_array_core.specs.LayoutLaws.{NothingOutside}
use Rattle.nd_array_core.specs.ArrayMeaning.{Meaning, inside}
use Rattle.nd_array_core.specs.ConcatenationAndSplit.{row_major_elements}
use Rattle.nd_array_core.specs.growth.AppendEach.{lengths_along}
use Rattle.nd_array_core.specs.reshape.ReshapeLaws.{ListsByRank}
use Rattle.nd_stacking.specs.ConcatenateAndStack.{followed_by, two_after, AreLengthsTogether, IsConcatenation}
use Rattle.nd_stacking.specs.ConcatenationByRuns.{joined_row, rows_below, run_in, given_to_row, size_before, size_after, woven, AreElementsOf, EachIs, HasWholeRun, IsByRank}
use Rattle.nd_stacking.proofs.EqualShapesConcatenated.{same_meaning}
use Rattle.nd_stacking.proofs.ConcatenationShapeChecks.{alike_with, fit}
use Rattle.nd_stacking.proofs.IndexNumberByAxisParts.{rank_with, size_with}

-- a multiple below another one
below_multiple : (c n w q : ℕ) → c < n → q < w → c * w + q < n * w
below_multiple c n w q below within = digits_lt below within

-- the rank of an index by the axes before one, and by those after it
abbrev rank_before : ℕ → List ℕ → List ℕ → ℕ
rank_before axis shape i = row_rank (take axis shape) (take axis i)

abbrev rank_after : ℕ → List ℕ → List ℕ → ℕ
rank_after axis shape i = row_rank (drop (suc axis) shape) (drop (suc axis) i)

-- an index of a box has an index of the axes before one, and of those after it
box_parts : (ns i : List ℕ) (a : ℕ) → in_box ns i ≡ true → (in_box (take a ns) (take a i) ≡ true) × (in_box (drop (suc a) ns) (drop (suc a) i) ≡ true)
box_parts [] [] zero h = (refl, refl)
box_parts [] [] (suc a) h = (refl, refl)
box_parts [] (k ∷ i) a h = cc
box_parts (n ∷ ns) [] a h = cc
box_parts (n ∷ ns) (k ∷ i) zero h = (refl, (and_parts (ltb k n) (in_box ns i) h).1)
box_parts (n ∷ ns) (k ∷ i) (suc a) h =
    let w = and_parts (ltb k n) (in_box ns i) h in
    let rest = box_parts ns i a w.1 in
    (and_from (ltb k n) (in_box (take a ns) (take a i)) w.0 rest.0, rest.1)

not_none : {X : Type 0} (x : X) → Some x ≡ None → ⊥
not_none x e = absurd cc

module _ {A : Type 0} where
  -- ---- rows of one length
  pub rows_more : (row : ℕ → List A) (n : ℕ) → rows_below row (n + 1) ≡ rows_below row n ++ row n
  rows_more row n = ap (rows_below row) (sym (suc-eq-add-one n))

  pub length-rows : (row : ℕ → List A) (n width : ℕ) → ((r : ℕ) → r < n → length (row r) ≡ width) → length (rows_below row n) ≡ n * width
  length-rows row zero width each = omega arith
  length-rows row (suc n) width each =
      let before = length-rows row n width (λ r below. each r (omega (arith, below))) in
      let here = each n (omega arith) in
      length-append (rows_below row n) (row n) ∙ omega (arith, before, here)

  pub at_row : (row : ℕ → List A) (n width r q : ℕ) → ((r : ℕ) → r < n → length (row r) ≡ width) → r < n → q < width → slice_get (rows_below row n) (r * width + q) ≡ slice_get (row r) q
  at_row row zero width r q each below within = absurd (omega (arith, below))
  at_row row (suc n) width r q each below within =
      let before = length-rows row n width (λ r b. each r (omega (arith, b))) in
      ⊎_elim
      (λ (low : r < n).
      got_before (rows_below row n) (row n) (r * width + q) (let less = below_multiple r n width q low within in omega (arith, less, before))
      ∙ at_row row n width r q (λ r b. each r (omega (arith, b))) low within)
      (λ (high : n ≤ r).
      let same : n ≡ r = omega (arith, high, below) in
      got_after (rows_below row n) (row n) (r * width) q (before ∙ ap (λ k. k * width) same)
      ∙ ap (λ k. slice_get (row k) q) same)
      (cases_lt r n)

  -- ---- a run
  pub length-run : (row len : ℕ) (xs : List A) → row * len + len ≤ length xs → length (run_in row len xs) ≡ len
  length-run row len xs within =
      let left = length-drop (row * len) xs in
      let taken = length-take len (drop (row * len) xs) in
      omega (arith, left, taken, within)

  pub at_run : (row len k : ℕ) (xs : List A) → k < len → slice_get (run_in row len xs) k ≡ slice_get xs (row * len + k)
  at_run row len k xs below = got_taken (drop (row * len) xs) len k below ∙ got_dropped xs (row * len) k

  -- ---- the concatenation, by the coordinate of the axis
  -- the element of one of the arrays, where this coordinate of the axis is counted on through them
  abbrev pub counted_on : ℕ → List (Meaning A) → List ℕ → ℕ → Option A
  counted_on axis [] i c = None
  counted_on axis (m ∷ ms) i c = cond (ltb c (get_or m.shape axis 0)) (m.at (set i axis c)) (counted_on axis ms i (c - get_or m.shape axis 0))

  -- an array with the lengths of a shape, but for the axis, and its elements by rank
  pub record Piece (shape : List ℕ) (axis : ℕ) (m : Meaning A) : Type 0 where
    pub alike : m.shape ≡ set shape axis (get_or m.shape axis 0)
    pub count : length (row_major_elements m) ≡ size_of m.shape
    pub each : ListsByRank m

  module _ (shape : List ℕ) (axis : ℕ) (on : axis < length shape) where
    piece_size : (m : Meaning A) → Piece shape axis m → size_of m.shape ≡ size_before axis shape * (get_or m.shape axis 0 * size_after axis shape)
    piece_size m piece = ap size_of piece.alike ∙ size_with shape axis (get_or m.shape axis 0) on

    -- the run of a row is there
    pub run_fits : (m : Meaning A) → Piece shape axis m → (row : ℕ) → row < size_before axis shape → row * (get_or m.shape axis 0 * size_after axis shape) + get_or m.shape axis 0 * size_after axis shape ≤ size_of m.shape
    run_fits m piece row below =
        let len = get_or m.shape axis 0 * size_after axis shape in
        let next : (row + 1) * len ≤ size_before axis shape * len = mul-le-mul_right len (omega (arith, below)) in
        let split = add-mul row 1 len in
        let whole = piece_size m piece in
        omega (arith, next, split, whole)

    piece_run : (m : Meaning A) → Piece shape axis m → (row : ℕ) → row < size_before axis shape → length (given_to_row axis (size_after axis shape) row m) ≡ get_or m.shape axis 0 * size_after axis shape
    piece_run m piece row below =
        length-run row (get_or m.shape axis 0 * size_after axis shape) (row_major_elements m) (let fits = run_fits m piece row below in let count = piece.count in omega (arith, fits, count))

    pub length-row : (ms : List (Meaning A)) (row : ℕ) → row < size_before axis shape → ((nth : ℕ) (m : Meaning A) → slice_get ms nth ≡ Some m → Piece shape axis m) → length (joined_row axis (size_after axis shape) row ms) ≡ lengths_along axis ms * size_after axis shape
    length-row [] row below pieces = omega arith
    length-row (m ∷ ms) row below pieces =
        let here = piece_run m (pieces 0 m refl) row below in
        let rest = length-row ms row below (λ nth n at. pieces (suc nth) n at) in
        let total : lengths_along axis (m ∷ ms) ≡ get_or m.shape axis 0 + lengths_along axis ms = sum_by-cons (λ n. get_or n.shape axis 0) m ms in
        let split = add-mul (get_or m.shape axis 0) (lengths_along axis ms) (size_after axis shape) in
        length-append (given_to_row axis (size_after axis shape) row m) (joined_row axis (size_after axis shape) row ms) ∙ (omega (arith, here, rest, split) ∙ ap (λ n. n * size_after axis shape) (sym total))

    module _ (i : List ℕ) (inside_shape : in_box shape i ≡ true) (many : length i ≡ length shape) (low : rank_before axis shape i < size_before axis shape) (near : rank_after axis shape i < size_after axis shape) where
      -- in one array
      at_piece : (m : Meaning A) → Piece shape axis m → (c : ℕ) → c < get_or m.shape axis 0 → slice_get (given_to_row axis (size_after axis shape) (rank_before axis shape i) m) (c * size_after axis shape + rank_after axis shape i) ≡ m.at (set i axis c)
      at_piece m piece c below =
          let len = get_or m.shape axis 0 in
          let xs = row_major_elements m in
          let boxed : in_box m.shape (set i axis c) ≡ true = subst (λ s. in_box s (set i axis c) ≡ true) (sym piece.alike) (in_box-set shape i axis len c inside_shape below) in
          let rank : row_rank m.shape (set i axis c) ≡ (rank_before axis shape i) * (len * size_after axis shape) + (c * size_after axis shape + rank_after axis shape i) = ap (λ s. row_rank s (set i axis c)) piece.alike ∙ rank_with shape i axis len c on many in
          at_run (rank_before axis shape i) (len * size_after axis shape) (c * size_after axis shape + rank_after axis shape i) xs (below_multiple c len (size_after axis shape) (rank_after axis shape i) below near)
          ∙ (ap (slice_get xs) (sym rank) ∙ piece.each (set i axis c) boxed)

      -- in a row of all
      pub at_pieces : (ms : List (Meaning A)) (c : ℕ) → ((nth : ℕ) (m : Meaning A) → slice_get ms nth ≡ Some m → Piece shape axis m) → c < lengths_along axis ms
          → slice_get (joined_row axis (size_after axis shape) (rank_before axis shape i) ms) (c * size_after axis shape + rank_after axis shape i) ≡ counted_on axis ms i c
      at_pieces [] c pieces below = absurd (omega (arith, below))
      at_pieces (m ∷ ms) c pieces below =
          let len = get_or m.shape axis 0 in
          let run = given_to_row axis (size_after axis shape) (rank_before axis shape i) m in
          let rest = joined_row axis (size_after axis shape) (rank_before axis shape i) ms in
          let long = piece_run m (pieces 0 m refl) (rank_before axis shape i) low in
          let total : lengths_along axis (m ∷ ms) ≡ len + lengths_along axis ms = sum_by-cons (λ n. get_or n.shape axis 0) m ms in
          ⊎_elim
          (λ (here : c < len).
          got_before run rest (c * size_after axis shape + rank_after axis shape i) (let less = below_multiple c len (size_after axis shape) (rank_after axis shape i) here near in omega (arith, less, long))
          ∙ (at_piece m (pieces 0 m refl) c here ∙ sym (ap (λ b. cond b (m.at (set i axis c)) (counted_on axis ms i (c - len))) (lt-ltb c len here))))
          (λ (past : len ≤ c).
          let apart : (len + (c - len)) * size_after axis shape ≡ len * size_after axis shape + (c - len) * size_after axis shape = add-mul len (c - len) (size_after axis shape) in
          let same : c ≡ len + (c - len) = omega (arith, past) in
          let there : c * size_after axis shape + rank_after axis shape i ≡ len * size_after axis shape + ((c - len) * size_after axis shape + rank_after axis shape i) = ap (λ n. n * size_after axis shape + rank_after axis shape i) same ∙ omega (arith, apart) in
          ap (slice_get (run ++ rest)) there
          ∙ (got_after run rest (len * size_after axis shape) ((c - len) * size_after axis shape + rank_after axis shape i) long
          ∙ (at_pieces ms (c - len) (λ nth n at. pieces (suc nth) n at) (omega (arith, total, below, past))
          ∙ sym (ap (λ b. cond b (m.at (set i axis c)) (counted_on axis ms i (c - len))) (le-ltb c len past)))))
          (cases_lt c len)

  -- ---- the concatenation
  pub nothing_outside_followed : (axis : ℕ) (m : Meaning A) (ms : List (Meaning A)) → NothingOutside m → NothingOutside (followed_by axis m ms)
  nothing_outside_followed axis m [] nothing = nothing
  nothing_outside_followed axis m (n ∷ ns) nothing = nothing_outside_followed axis (two_after axis m n) ns (λ i h. ap (λ b. cond b (cond (ltb (get_or i axis 0) (get_or m.shape axis 0)) (m.at i) (n.at (set i axis (get_or i axis 0 - get_or m.shape axis 0)))) None) h)

  pub shape_followed : (axis : ℕ) (m : Meaning A) (ms : List (Meaning A)) → axis < length m.shape → (followed_by axis m ms).shape ≡ set m.shape axis (lengths_along axis (m ∷ ms))
  shape_followed axis m [] on = sym (ap (set m.shape axis) (sum_by-cons (λ n. get_or n.shape axis 0) m [] ∙ omega arith) ∙ set-get_or m.shape axis 0)
  shape_followed axis m (n ∷ ns) on =
      let two = get_or m.shape axis 0 + get_or n.shape axis 0 in
      let long = length-set m.shape axis two in
      let here = get_or-set_same m.shape axis two 0 on in
      let whole : lengths_along axis (m ∷ n ∷ ns) ≡ get_or m.shape axis 0 + lengths_along axis (n ∷ ns) = sum_by-cons (λ k. get_or k.shape axis 0) m (n ∷ ns) in
      let rest : lengths_along axis (n ∷ ns) ≡ get_or n.shape axis 0 + lengths_along axis ns = sum_by-cons (λ k. get_or k.shape axis 0) n ns in
      let joined : lengths_along axis (two_after axis m n ∷ ns) ≡ get_or (set m.shape axis two) axis 0 + lengths_along axis ns = sum_by-cons (λ k. get_or k.shape axis 0) (two_after axis m n) ns in
      shape_followed axis (two_after axis m n) ns (omega (arith, long, on))
      ∙ (set-set m.shape axis two (lengths_along axis (two_after axis m n ∷ ns))
      ∙ ap (set m.shape axis) (omega (arith, whole, rest, joined, here)))

  -- two arrays of the list, as one
  two_as_one : (axis : ℕ) (m n : Meaning A) (ms : List (Meaning A)) (i : List ℕ) (c : ℕ) → axis < length m.shape → axis < length i → ((k : ℕ) → c < k → in_box (set m.shape axis k) (set i axis c) ≡ true)
      → counted_on axis (two_after axis m n ∷ ms) i c ≡ counted_on axis (m ∷ n ∷ ms) i c
  two_as_one axis m n ms i c on many boxed =
      let x = get_or m.shape axis 0 in
      let y = get_or n.shape axis 0 in
      let j = set i axis c in
      let tested = (two_after axis m n).at j in
      let rest = counted_on axis ms i (c - (x + y)) in
      let here : get_or j axis 0 ≡ c = get_or-set_same i axis c 0 many in
      let both : get_or (set m.shape axis (x + y)) axis 0 ≡ x + y = get_or-set_same m.shape axis (x + y) 0 on in
      let first : counted_on axis (two_after axis m n ∷ ms) i c ≡ cond (ltb c (x + y)) tested rest = ap (λ z. cond (ltb c z) tested (counted_on axis ms i (c - z))) both in
      let seen : c < x + y → tested ≡ cond (ltb c x) (m.at j) (n.at (set i axis (c - x))) =
      λ below.
      ap (λ b. cond b (cond (ltb (get_or j axis 0) x) (m.at j) (n.at (set j axis (get_or j axis 0 - x)))) None) (boxed (x + y) below)
      ∙ (ap (λ z. cond (ltb z x) (m.at j) (n.at (set j axis (z - x)))) here ∙ ap (λ k. cond (ltb c x) (m.at j) (n.at k)) (set-set i axis c (c - x))) in
      first
      ∙ ⊎_elim
      (λ (low : c < x).
      let below : c < x + y = omega (arith, low) in
      ap (λ b. cond b tested rest) (lt-ltb c (x + y) below)
      ∙ (seen below ∙ (ap (λ b. cond b (m.at j) (n.at (set i axis (c - x)))) (lt-ltb c x low)
      ∙ sym (ap (λ b. cond b (m.at j) (counted_on axis (n ∷ ms) i (c - x))) (lt-ltb c x low)))))
      (λ (high : x ≤ c).
      sym (ap (λ b. cond b (m.at j) (counted_on axis (n ∷ ms) i (c - x))) (le-ltb c x high)
      ∙ sym (⊎_elim
      (λ (low : c < x + y).
      ap (λ b. cond b tested rest) (lt-ltb c (x + y) low)
      ∙ (seen low ∙ (ap (λ b. cond b (m.at j) (n.at (set i axis (c - x)))) (le-ltb c x high)
      ∙ sym (ap (λ b. cond b (n.at (set i axis (c - x))) (counted_on axis ms i (c - x - y))) (lt-ltb (c - x) y (omega (arith, low, high)))))))
      (λ (past : x + y ≤ c).
      ap (λ b. cond b tested rest) (le-ltb c (x + y) past)
      ∙ sym (ap (λ b. cond b (n.at (set i axis (c - x))) (counted_on axis ms i (c - x - y))) (le-ltb (c - x) y (omega (arith, past)))
      ∙ ap (counted_on axis ms i) (omega (arith, past))))
      (cases_lt c (x + y)))))
      (cases_lt c x)

  -- a concatenation's element at an index
  followed_at : (axis : ℕ) (m : Meaning A) (ms : List (Meaning A)) (i : List ℕ) → axis < length m.shape → in_box (set m.shape axis (lengths_along axis (m ∷ ms))) i ≡ true
      → (followed_by axis m ms).at i ≡ counted_on axis (m ∷ ms) i (get_or i axis 0)
  followed_at axis m [] i on h =
      let c = get_or i axis 0 in
      let total : lengths_along axis (m ∷ []) ≡ get_or m.shape axis 0 = sum_by-cons (λ n. get_or n.shape axis 0) m [] ∙ omega arith in
      let whole : set m.shape axis (lengths_along axis (m ∷ [])) ≡ m.shape = ap (set m.shape axis) total ∙ set-get_or m.shape axis 0 in
      let below = coordinate_below m.shape i axis (subst (λ s. in_box s i ≡ true) whole h) on in
      sym (ap (λ b. cond b (m.at (set i axis c)) None) (lt-ltb c (get_or m.shape axis 0) below) ∙ ap m.at (set-get_or i axis 0))
  followed_at axis m (n ∷ ns) i on h =
      let two = get_or m.shape axis 0 + get_or n.shape axis 0 in
      let all = lengths_along axis (m ∷ n ∷ ns) in
      let c = get_or i axis 0 in
      let long = length-set m.shape axis two in
      let here = get_or-set_same m.shape axis two 0 on in
      let wide = length-set m.shape axis all in
      let many = length-in_box (set m.shape axis all) i h in
      let whole : all ≡ get_or m.shape axis 0 + lengths_along axis (n ∷ ns) = sum_by-cons (λ k. get_or k.shape axis 0) m (n ∷ ns) in
      let rest : lengths_along axis (n ∷ ns) ≡ get_or n.shape axis 0 + lengths_along axis ns = sum_by-cons (λ k. get_or k.shape axis 0) n ns in
      let joined : lengths_along axis (two_after axis m n ∷ ns) ≡ get_or (set m.shape axis two) axis 0 + lengths_along axis ns = sum_by-cons (λ k. get_or k.shape axis 0) (two_after axis m n) ns in
      let shapes : set (set m.shape axis two) axis (lengths_along axis (two_after axis m n ∷ ns)) ≡ set m.shape axis all = set-set m.shape axis two (lengths_along axis (two_after axis m n ∷ ns)) ∙ ap (set m.shape axis) (omega (arith, whole, rest, joined, here)) in
      followed_at axis (two_after axis m n) ns i (omega (arith, long, on)) (subst (λ s. in_box s i ≡ true) (sym shapes) h)
      ∙ two_as_one axis m n ns i c on (omega (arith, many, wide, on))
      (λ k below. subst (λ s. in_box s (set i axis c) ≡ true) (set-set m.shape axis all k) (in_box-set (set m.shape axis all) i axis k c h below))

  -- ---- what is woven shows it
  module _ (axis : ℕ) (shape : List ℕ) (m : Meaning A) (ms : List (Meaning A)) (on : axis < length m.shape) (are : shape ≡ set m.shape axis (lengths_along axis (m ∷ ms)))
      (pieces : (nth : ℕ) (n : Meaning A) → slice_get (m ∷ ms) nth ≡ Some n → Piece shape axis n) where
    long_enough : axis < length shape
    long_enough = let wide = length-set m.shape axis (lengths_along axis (m ∷ ms)) in let same = ap length are in omega (arith, same, wide, on)

    woven_at : (i : List ℕ) → in_box shape i ≡ true → slice_get (woven axis (size_after axis shape) (size_before axis shape) (m ∷ ms)) (row_rank shape i) ≡ (followed_by axis m ms).at i
    woven_at i h =
        let total = lengths_along axis (m ∷ ms) in
        let c = get_or i axis 0 in
        let inner = size_after axis shape in
        let rows = size_before axis shape in
        let parts = box_parts shape i axis h in
        let low = row_rank_below (take axis shape) (take axis i) parts.0 in
        let near = row_rank_below (drop (suc axis) shape) (drop (suc axis) i) parts.1 in
        let many = length-in_box shape i h in
        let whole : get_or shape axis 0 ≡ total = ap (λ s. get_or s axis 0) are ∙ get_or-set_same m.shape axis total 0 on in
        let below : c < total = let b = coordinate_below shape i axis h long_enough in omega (arith, b, whole) in
        let rank : row_rank shape i ≡ rank_before axis shape i * (total * inner) + (c * inner + rank_after axis shape i) =
        sym (ap (λ s. row_rank s (set i axis c)) (ap (set shape axis) (sym whole) ∙ set-get_or shape axis 0) ∙ ap (row_rank shape) (set-get_or i axis 0)) ∙ rank_with shape i axis total c long_enough many in
        ap (slice_get (woven axis inner rows (m ∷ ms))) rank
        ∙ (at_row (λ row. joined_row axis inner row (m ∷ ms)) rows (total * inner) (rank_before axis shape i) (c * inner + rank_after axis shape i)
        (λ row r. length-row shape axis long_enough (m ∷ ms) row r pieces) low (below_multiple c total inner (rank_after axis shape i) below near)
        ∙ (at_pieces shape axis long_enough i h many low near (m ∷ ms) c pieces below
        ∙ sym (followed_at axis m ms i on (subst (λ s. in_box s i ≡ true) are h))))

    pub woven_shows : (items : List A) (at : List ℕ → Option A) → NothingOutside m → items ≡ woven axis (size_after axis shape) (size_before axis shape) (m ∷ ms)
        → ((i : List ℕ) → at i ≡ inside shape i (slice_get items (row_rank shape i))) → (i : List ℕ) → at i ≡ (followed_by axis m ms).at i
    woven_shows items at nothing is shows i = shows i ∙ by_box (in_box shape i) refl
      where
        by_box : (b : Bool) → in_box shape i ≡ b → cond b (slice_get items (row_rank shape i)) None ≡ (followed_by axis m ms).at i
        by_box true h = ap (λ xs. slice_get xs (row_rank shape i)) is ∙ woven_at i h
        by_box false h = sym (nothing_outside_followed axis m ms nothing i (subst (λ s. in_box s i ≡ false) (are ∙ sym (shape_followed axis m ms on)) h))

  -- ---- the arrays of a list that has a concatenation of these lengths
  pieces_of : (axis : ℕ) (m : Meaning A) (ms : List (Meaning A)) (ls : List ℕ) → AreLengthsTogether axis (m ∷ ms) ls → EachIs IsByRank (m ∷ ms) → (nth : ℕ) (n : Meaning A) → slice_get (m ∷ ms) nth ≡ Some n → Piece ls axis n
  pieces_of axis m ms ls are ranks nth n at =
      let f = fit axis m ms are.0 in
      let len = get_or n.shape axis 0 in
      let same : n.shape ≡ set m.shape axis len = sym (set-get_or n.shape axis 0) ∙ alike_with axis len m.shape n.shape (f.alike nth n at) in record {
        alike = same ∙ (sym (set-set m.shape axis (lengths_along axis (m ∷ ms)) len) ∙ ap (λ s. set s axis len) (sym are.1));
        count = (ranks nth n at).0;
        each = (ranks nth n at).1;
      }

  axis_there : (axis : ℕ) (m : Meaning A) (ms : List (Meaning A)) (ls : List ℕ) → AreLengthsTogether axis (m ∷ ms) ls → axis < length ls
  axis_there axis m ms ls are =
      let f = fit axis m ms are.0 in
      let long = ap length are.1 ∙ length-set m.shape axis (lengths_along axis (m ∷ ms)) in
      let on = f.on in
      omega (arith, long, on)

  pub runs_there : (axis after rows : ℕ) (ms : List (Meaning A)) (ls : List ℕ) → AreLengthsTogether axis ms ls → EachIs IsByRank ms → rows ≡ size_before axis ls → after ≡ size_after axis ls → (row : ℕ) → row < rows → EachIs (HasWholeRun axis after row) ms
  runs_there axis after rows [] ls are ranks before inner row below = absurd (not_none Unsupported are.0)
  runs_there axis after rows (m ∷ ms) ls are ranks before inner row below =
      subst (λ b. EachIs (HasWholeRun axis b row) (m ∷ ms)) (sym inner)
      (λ nth n at. run_fits ls axis (axis_there axis m ms ls are) n (pieces_of axis m ms ls are ranks nth n at) row (subst (λ r. row < r) before below))

  pub runs_together : (axis after rows : ℕ) (ms : List (Meaning A)) (ls : List ℕ) → AreLengthsTogether axis ms ls → rows ≡ size_before axis ls → after ≡ size_after axis ls → size_of ls ≡ rows * (lengths_along axis ms * after)
  runs_together axis after rows [] ls are before inner = absurd (not_none Unsupported are.0)
  runs_together axis after rows (m ∷ ms) ls are before inner =
      let f = fit axis m ms are.0 in
      let total = lengths_along axis (m ∷ ms) in
      let same : set ls axis total ≡ ls = ap (λ s. set s axis total) are.1 ∙ (set-set m.shape axis total total ∙ sym are.1) in
      ap size_of (sym same) ∙ (size_with ls axis total (axis_there axis m ms ls are) ∙ (λ k. sym before k * (total * sym inner k)))

  pub woven_is : (axis after rows : ℕ) (ms : List (Meaning A)) (ls : List ℕ) (items : List A) (joined : Meaning A) → AreLengthsTogether axis ms ls → EachIs IsByRank ms → rows ≡ size_before axis ls → after ≡ size_after axis ls
      → ((m : Meaning A) → slice_get ms 0 ≡ Some m → NothingOutside m) → items ≡ woven axis after rows ms → joined.shape ≡ ls → ((i : List ℕ) → joined.at i ≡ inside ls i (slice_get items (row_rank ls i))) → IsConcatenation axis ms joined
  woven_is axis after rows [] ls items joined are ranks before inner nothing is shape shows = absurd (not_none Unsupported are.0)
  woven_is axis after rows (m ∷ ms) ls items joined are ranks before inner nothing is shape shows =
      let f = fit axis m ms are.0 in
      same_meaning joined (followed_by axis m ms) (shape ∙ (are.1 ∙ sym (shape_followed axis m ms f.on)))
      (woven_shows axis ls m ms f.on are.1 (λ nth n at. pieces_of axis m ms ls are ranks nth n at) items joined.at (nothing m refl) (is ∙ (λ k. woven axis (inner k) (before k) (m ∷ ms))) shows)

  -- ---- the loops: one array more, and one row more
  pub row_more : (axis after row : ℕ) (ms : List (Meaning A)) (nth : ℕ) (m : Meaning A) (before old new run : List A) → slice_get ms nth ≡ Some m → old ≡ before ++ joined_row axis after row (take nth ms) → new ≡ old ++ run → run ≡ given_to_row axis after row m
      → new ≡ before ++ joined_row axis after row (take (nth + 1) ms)
  row_more axis after row ms nth m before old new run at so_far put is =
      put
      ∙ ((λ k. so_far k ++ is k)
      ∙ (flat_map_more (given_to_row axis after row) before (take nth ms) m
      ∙ ap (λ ns. before ++ joined_row axis after row ns) (sym (take_next ms nth m at))))

  pub woven_more : (axis after row : ℕ) (ms : List (Meaning A)) (old new : List A) → old ≡ woven axis after row ms → new ≡ old ++ joined_row axis after row ms → new ≡ woven axis after (row + 1) ms
  woven_more axis after row ms old new so_far put = put ∙ (ap (λ xs. xs ++ joined_row axis after row ms) so_far ∙ sym (rows_more (λ r. joined_row axis after r ms) row))

  -- ---- the elements of a run are elements of the array
  pub run_elements : (m : Meaning A) → IsByRank m → (xs run : List A) (from len : ℕ) → xs ≡ row_major_elements m → run ≡ take len (drop from xs) → AreElementsOf m run
  run_elements m by_rank xs run from len all is place x at =
      let there : slice_get (take len (drop from xs)) place ≡ Some x = ap (λ l. slice_get l place) (sym is) ∙ at in
      let taken = length-take len (drop from xs) in
      let within = slice_get_within (take len (drop from xs)) place x there in
      let found : slice_get (row_major_elements m) (from + place) ≡ Some x =
      ap (λ l. slice_get l (from + place)) (sym all) ∙ (sym (got_taken (drop from xs) len place (omega (arith, taken, within)) ∙ got_dropped xs from place) ∙ there) in
      let below = slice_get_within (row_major_elements m) (from + place) x found in
      let count = by_rank.0 in
      let rank : from + place < size_of m.shape = omega (arith, below, count) in
      let i = index_at m.shape (from + place) in
      (i, sym (by_rank.1 i (in_box-index_at m.shape (from + place) rank)) ∙ (ap (slice_get (row_major_elements m)) (row_rank-index_at m.shape (from + place) rank) ∙ found))

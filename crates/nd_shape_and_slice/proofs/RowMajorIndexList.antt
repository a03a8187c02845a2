-- The indexes of a shape in row-major order, by their ranks.
use Rattle.nd_shape_and_slice.proofs.NamesFromOtherCrates.{◌≡◌, ℕ, zero, suc, ◌+◌, ◌*◌, ◌/◌, ◌%◌, ◌<◌, ◌≤◌, List, [], ◌∷◌, length, map, take, drop, get_or, set, refl, ap, sym, ◌∙◌, arith, length-append, add-one, drop-cons, mul_comm, div-lt_iff_lt-mul, div-div-eq-div-mul, mod-eq_of_lt, mod-mul, div-add-mod', div-mul-add, mod-mul-add, mod_below, div_below, length-map, length-set, get_or-map, drop-set, get_or-flat_map, length-range_with_len, get_or-range_with_len, flat_map, range_with_len}
use Rattle.nd_shape_and_slice.specs.ShapesAndIndexOrders.{size_of, index_at, indexes_of}
use Rattle.nd_shape_and_slice.proofs.RowMajor.{positive-cons}

-- the first numbers of a range
take-range : (a n k : ℕ) → k ≤ n → take k (range_with_len a n) ≡ range_with_len a k
take-range a n zero h = refl
take-range a zero (suc k) h = absurd (omega arith)
take-range a (suc n) (suc k) h = ap (λ t. a ∷ t) (take-range (a + 1) n k (omega arith))

-- the indexes that begin with a coordinate
abbrev begun : List ℕ → ℕ → List (List ℕ)
begun ns i = map (λ is. i ∷ is) (indexes_of ns)

length-begun : (ns : List ℕ) (i : ℕ) → length (begun ns i) ≡ length (indexes_of ns)
length-begun ns i = length-map (indexes_of ns) (λ is. i ∷ is)

length-begun_all : (ns : List ℕ) (a n : ℕ) → length (flat_map (begun ns) (range_with_len a n)) ≡ n * length (indexes_of ns)
length-begun_all ns a zero = omega arith
length-begun_all ns a (suc n) =
    let whole = length-append (begun ns a) (flat_map (begun ns) (range_with_len (a + 1) n)) in
    let first = length-begun ns a in
    let rest = length-begun_all ns (a + 1) n in
    let next : suc n * length (indexes_of ns) ≡ length (indexes_of ns) + n * length (indexes_of ns) = grind arith in
    omega (arith, whole, first, rest, next)

-- as many indexes as elements
pub length-indexes_of : (ns : List ℕ) → length (indexes_of ns) ≡ size_of ns
length-indexes_of [] = refl
length-indexes_of (n ∷ ns) = length-begun_all ns 0 n ∙ ap (λ s. n * s) (length-indexes_of ns)

-- the index of each rank stands at its place
pub get_or-indexes_of : (ns : List ℕ) (r : ℕ) → r < size_of ns → get_or (indexes_of ns) r [] ≡ index_at ns r
get_or-indexes_of [] zero h = refl
get_or-indexes_of [] (suc r) h = absurd (omega arith)
get_or-indexes_of (n ∷ ns) r h =
    let s = size_of ns in
    let some : 0 < s = (positive-cons n ns (omega (arith, h))).1 in
    let i = r / s in
    let j = r % s in
    let i_below : i < n = div_below r s n some h in
    let j_below : j < s = mod_below r s some in
    let whole : r ≡ i * s + j = sym (div-add-mod' r s) in
    let first : get_or (range_with_len 0 n) i 0 ≡ i = get_or-range_with_len 0 n i 0 i_below ∙ omega arith in
    let on : i < length (range_with_len 0 n) = omega (arith, i_below, length-range_with_len 0 n) in
    let piece : length (begun ns (get_or (range_with_len 0 n) i 0)) ≡ s = length-begun ns (get_or (range_with_len 0 n) i 0) ∙ length-indexes_of ns in
    let in_piece : j < length (begun ns (get_or (range_with_len 0 n) i 0)) = omega (arith, j_below, piece) in
    let before : length (flat_map (begun ns) (take i (range_with_len 0 n))) ≡ i * s = (ap (λ t. length (flat_map (begun ns) t)) (take-range 0 n i (omega (arith, i_below))) ∙ length-begun_all ns 0 i) ∙ ap (λ x. i * x) (length-indexes_of ns) in
    let found = get_or-flat_map (begun ns) (range_with_len 0 n) i j 0 [] on in_piece in
    let place : r ≡ length (flat_map (begun ns) (take i (range_with_len 0 n))) + j = omega (arith, whole, before) in
    let rest : get_or (begun ns i) j [] ≡ i ∷ get_or (indexes_of ns) j [] = get_or-map (λ (is : List ℕ). i ∷ is) (indexes_of ns) j [] [] (omega (arith, j_below, length-indexes_of ns)) in
    (ap (λ k. get_or (indexes_of (n ∷ ns)) k []) place ∙ found) ∙ (ap (λ k. get_or (begun ns k) j []) first ∙ (rest ∙ ap (λ t. i ∷ t) (get_or-indexes_of ns j j_below)))

-- one coordinate more, on the way from the last axis to the first
pub index_at-mod : (n : ℕ) (ns : List ℕ) (r : ℕ) → 0 < n → 0 < size_of ns → index_at (n ∷ ns) (r % (n * size_of ns)) ≡ (r / size_of ns % n) ∷ index_at ns (r % size_of ns)
index_at-mod n ns r some rest =
    let s = size_of ns in
    let low = mod_below r s rest in
    let digits = mod-mul r some rest in
    let head : r % (n * s) / s ≡ r / s % n = ap (λ x. x / s) digits ∙ div-mul-add (r / s % n) s (r % s) low in
    let tail : r % (n * s) % s ≡ r % s = ap (λ x. x % s) digits ∙ mod-mul-add (r / s % n) s (r % s) low in
    rw (head, tail) refl

-- the axes from this one on have their coordinates, and the rest is the rank over their product
pub record IsIndexedFrom (rank axis rest : ℕ) (lengths index : List ℕ) : Type 0 where
  pub within : axis ≤ length lengths
  pub as_many : length index ≡ length lengths
  pub rest_is : rest ≡ rank / size_of (drop axis lengths)
  pub done : drop axis index ≡ index_at (drop axis lengths) (rank % size_of (drop axis lengths))

pub positive_at : (ns : List ℕ) (k : ℕ) → k < length ns → 0 < size_of ns → (0 < get_or ns k 0) × (0 < size_of (drop (k + 1) ns))
positive_at [] k h some = absurd (omega arith)
positive_at (n ∷ ns) zero h some = positive-cons n ns some
positive_at (n ∷ ns) (suc k) h some = rw add_shift (positive_at ns k (omega arith) (positive-cons n ns some).1)
  where
    add_shift : suc k + 1 ≡ suc (k + 1)
    add_shift = omega arith

pub indexed_more : (rank k axis rest : ℕ) (lengths index : List ℕ) → axis ≡ k + 1 → k < length lengths → 0 < size_of lengths → IsIndexedFrom rank axis rest lengths index → IsIndexedFrom rank k (rest / get_or lengths k 0) lengths (set index k (rest % get_or lengths k 0))
indexed_more rank k axis rest lengths index e h some so_far =
    let n = get_or lengths k 0 in
    let later = drop (k + 1) lengths in
    let positive = positive_at lengths k h some in
    let at : drop k lengths ≡ n ∷ later = rw (add-one, drop-cons lengths k 0) refl in
    let quotient : rest ≡ rank / size_of later = so_far.rest_is ∙ ap (λ a. rank / size_of (drop a lengths)) e in
    let tail : drop (k + 1) index ≡ index_at later (rank % size_of later) = ap (λ a. drop a index) (sym e) ∙ (so_far.done ∙ ap (λ a. index_at (drop a lengths) (rank % size_of (drop a lengths))) e) in
    let put = drop-set index k (rest % n) (omega (arith, so_far.as_many)) in
    record {
      within = omega arith;
      as_many = length-set index k (rest % n) ∙ so_far.as_many;
      rest_is = (ap (λ r. r / n) quotient ∙ div-div-eq-div-mul rank (size_of later) n) ∙ (ap (λ s. rank / s) (mul_comm (size_of later) n) ∙ ap (λ l. rank / size_of l) (sym at));
      done = ((put ∙ ap (λ t. (rest % n) ∷ t) tail) ∙ ap (λ r. (r % n) ∷ index_at later (rank % size_of later)) quotient)
          ∙ (sym (index_at-mod n later rank positive.0 positive.1) ∙ ap (λ l. index_at l (rank % size_of l)) (sym at));
    }

pub indexed_all : (rank rest : ℕ) (lengths index : List ℕ) → rank < size_of lengths → IsIndexedFrom rank 0 rest lengths index → index ≡ index_at lengths rank
indexed_all rank rest lengths index h all = all.done ∙ ap (index_at lengths) (mod-eq_of_lt h)

-- an index has a coordinate for each axis
pub length-index_at : (ns : List ℕ) (rank : ℕ) → length (index_at ns rank) ≡ length ns
length-index_at [] rank = refl
length-index_at (n ∷ ns) rank = ap suc (length-index_at ns (rank % size_of ns))

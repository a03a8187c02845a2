-- A shape's indexes lane by lane: what a loop over a walk of the outer axes keeps.
use Rattle.nd_elements.proofs.NamesFromOtherCrates.{◌≡◌, ℕ, zero, suc, ◌+◌, ◌-◌, ◌*◌, ◌<◌, ◌≤◌, min, List, [], ◌∷◌, ◌++◌, length, take, replicate, get_or, set, refl, ap, sym, subst, ◌∙◌, arith, add-one, pos, ◌+ℤ◌, ◌*ℤ◌, take-suc, take_more_set, Order, RowMajor, ColumnMajor, size_of, HasCheckedSize, displacement_of, nonzero_product-size_of, is_place, ReachesPlaces, slowest_first, slow_axis_in, sums, checked-front, length-slow, slow-set, size_of-slow, lane_size, lane_kept, lane_index, index_in, index_at, length-in_box, in_box-index_at, mul-le-mul_right, length-take-le}

-- one more coordinate
pub outer_more : (o : Order) (xs outer : List ℕ) (k v : ℕ) → k < length xs → k < length outer → v ≡ get_or outer k 0 → take k (slowest_first o xs) ≡ take k outer → take (k + 1) (slowest_first o (set xs (slow_axis_in o (length xs) k) v)) ≡ take (k + 1) outer
outer_more o xs outer k v on below is so_far =
    let next : take (k + 1) outer ≡ take k outer ++ v ∷ [] = rw (add-one k, is) (take-suc outer k 0 below) in
    ap (take (k + 1)) (slow-set o xs k v on)
    ∙ (take_more_set (slowest_first o xs) k v (omega (arith, on, length-slow o xs))
    ∙ (ap (λ l. l ++ v ∷ []) so_far ∙ sym next))

-- strides of 0 keep all places at the first
rests : (n k : ℕ) (i : List ℕ) → displacement_of (take k (replicate n (pos 0))) i ≡ pos 0
rests zero zero i = refl
rests zero (suc k) i = refl
rests (suc n) zero i = refl
rests (suc n) (suc k) [] = refl
rests (suc n) (suc k) (x ∷ i) = let here : pos x *ℤ pos 0 ≡ pos 0 = zero-product x in omega (arith, sums, here, rests n k i)
  where
    zero-product : (x : ℕ) → pos x *ℤ pos 0 ≡ pos 0
    zero-product x = omega (arith, sums)

pub rests_reach : (n k : ℕ) (ms : List ℕ) → ReachesPlaces 0 ms (take k (replicate n (pos 0)))
rests_reach n k ms i h = ap (λ z. is_place (pos 0 +ℤ z)) (rests n k i)

pub outer_checked : (o : Order) (ns : List ℕ) (k : ℕ) → 0 < size_of ns → HasCheckedSize ns → HasCheckedSize (take k (slowest_first o ns))
outer_checked o ns k some checked =
    let slow = slowest_first o ns in
    let size = size_of-slow o ns in
    omega (arith, checked-front slow k, checked, nonzero_product-size_of ns some, nonzero_product-size_of slow (omega (arith, some, size)), size)

-- a walk over the outer axes has a coordinate for each
pub outer_long : (o : Order) (ns : List ℕ) (n r : ℕ) → length ns ≡ n + 1 → r < size_of (take n (slowest_first o ns)) → length (index_at (take n (slowest_first o ns)) r) ≡ n
outer_long o ns n r axes h =
    let ms = take n (slowest_first o ns) in
    (length-in_box ms (index_at ms r) (in_box-index_at ms r h)) ∙ length-take-le n (slowest_first o ns) (omega (arith, axes, length-slow o ns))

-- what such a walk shows, and how long that is
pub outer_walked : (o : Order) (ns ms i : List ℕ) (axes q : ℕ) → axes ≡ length ns → 0 < length ns → ms ≡ take (axes - 1) (slowest_first o ns) → q < size_of ms → i ≡ index_at ms q
    → (i ≡ index_at (take (axes - 1) (slowest_first o ns)) q) × (length i + 1 ≡ length ns)
outer_walked o ns ms i axes q as_many some these below walked =
    let long = ap length (walked ∙ ap (λ l. index_at l q) these) ∙ outer_long o ns (axes - 1) q (omega (arith, as_many, some)) (subst (λ l. q < size_of l) these below) in
    (walked ∙ ap (λ l. index_at l q) these, omega (arith, long, as_many, some))

-- the index along a lane: its rank, which is below the size; and the other coordinates stay
pub lane_at : (o : Order) (ns xs ms slow : List ℕ) (axes q k fastest count : ℕ) → axes ≡ length ns → length xs ≡ length ns → fastest ≡ slow_axis_in o (axes - 1 + 1) (axes - 1) → slow ≡ slowest_first o ns → count ≡ get_or slow (axes - 1) 0 → 0 < length ns → 0 < size_of ns
    → ms ≡ take (axes - 1) (slowest_first o ns) → q < size_of ms → k < count → take (axes - 1) (slowest_first o xs) ≡ index_at (take (axes - 1) (slowest_first o ns)) q
    → (set xs fastest k ≡ index_in o ns (q * count + k)) × (q * count + k < size_of ns) × (take (axes - 1) (slowest_first o (set xs fastest k)) ≡ take (axes - 1) (slowest_first o xs))
lane_at o ns xs ms slow axes q k fastest count as_many many axis slowest is first some these outer inner walked =
    let n = axes - 1 in
    let whole : length ns ≡ n + 1 = omega (arith, as_many, first) in
    let long : length xs ≡ n + 1 = many ∙ whole in
    let c = get_or (slowest_first o ns) n 0 in
    let counted : count ≡ c = is ∙ ap (λ l. get_or l n 0) slowest in
    let below : k < c = omega (arith, inner, counted) in
    let within : q < size_of (take n (slowest_first o ns)) = subst (λ l. q < size_of l) these outer in
    let more : (q + 1) * c ≤ size_of (take n (slowest_first o ns)) * c = mul-le-mul_right {m = q + 1} {n = size_of (take n (slowest_first o ns))} c (omega (arith, within)) in
    let next : (q + 1) * c ≡ q * c + c = grind arith in
    rw (axis ∙ ap (λ m. slow_axis_in o m n) (sym long), counted) ((lane_index o ns xs n q k whole long some within below walked), omega (arith, lane_size o ns xs n q k whole long, more, next, below), lane_kept o ns xs n q k whole long)

-- there is room for the element of a rank
pub room_at : (size most len r : ℕ) → r < size → size ≤ most → len ≡ r → len < most
room_at size most len r below fits is = omega (arith, below, fits, is)

-- one rank more leaves fewer
pub nearer : (n q r : ℕ) → q < n → r ≡ q + 1 → n - r < n - q
nearer n q r below is = omega (arith, below, is)

-- the outer axes are among all, as many as these are
pub outer_within : (o : Order) (ns xs ys : List ℕ) (n axes : ℕ) → axes ≡ length ns → n ≤ axes → xs ≡ ys → ys ≡ slowest_first o ns → n ≤ length xs
outer_within o ns xs ys n axes count below e f = let long = ap length (e ∙ f) ∙ length-slow o ns in omega (arith, count, below, long)

-- before the first lane no rank is done
pub lane_none : (q count : ℕ) → q ≡ 0 → 0 ≡ q * count
lane_none q count is = rw is (omega arith)

-- a lane is through: the ranks so far are those below the next
pub lane_through : (q r size count k : ℕ) → q < size → r ≡ min (q + 1) size → k ≤ count → count ≤ k → q * count + k ≡ r * count
lane_through q r size count k below is within end =
    let next : r ≡ q + 1 = omega (arith, below, is) in
    let more : (q + 1) * count ≡ q * count + count = grind arith in
    omega (arith, within, end, more, ap (λ m. m * count) next)

-- all lanes are through
pub lanes_done : (o : Order) (ns ms slow : List ℕ) (axes q count : ℕ) → axes ≡ length ns → 0 < length ns → ms ≡ take (axes - 1) (slowest_first o ns) → slow ≡ slowest_first o ns → count ≡ get_or slow (axes - 1) 0 → q ≡ size_of ms → q * count ≡ size_of ns
lanes_done o ns ms slow axes q count as_many first these slowest is all =
    let whole : length ns ≡ axes - 1 + 1 = omega (arith, as_many, first) in
    rw (all, these, is, slowest) (lane_size o ns ns (axes - 1) 0 0 whole whole)

-- where there are no axes there is one index
pub no_axes_index : (o : Order) (ns : List ℕ) → length ns ≡ 0 → ns ≡ index_in o ns 0
no_axes_index RowMajor [] none = refl
no_axes_index ColumnMajor [] none = refl
no_axes_index o (n ∷ ns) none = absurd (omega (arith, none))

pub no_axes_size : (ns : List ℕ) → length ns ≡ 0 → size_of ns ≡ 1
no_axes_size [] none = refl
no_axes_size (n ∷ ns) none = absurd (omega (arith, none))

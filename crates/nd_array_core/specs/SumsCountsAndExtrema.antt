-- Words for sums of a function over all numbers below a bound, such as the rows of a column, and over the indexes of a
-- shape.
--     sum_below f n            the sum of f 0, .., f (n - 1)
--     max_below first f n      the greatest of a first number and of f 0, .., f (n - 1)
--     min_below first f n      the least of a first number and of f 0, .., f (n - 1)
--     count_below test n       how many of 0, .., n - 1 pass a test
--     sum_over shape f         the sum of f over all indexes of a shape
--     count_over shape test    how many indexes of a shape pass a test
--     value_or_0 x             an element, or 0 where there is none
--     is_value value x         whether there is an element and it is this value
--     bits_or_0 w x            the bits of a signed element of width w as an unsigned number, or 0 where there is none
-- A sum that wraps is the sum modulo the type's power of 2: `sum_below f n % 2 ^ 64`. A wrapping sum of signed numbers
-- is that of their bits: `cast_signed w64 (sum_below bits n % 2 ^ 64)`. So no such sum depends on the order of its
-- elements.
use Rattle.std.specs.Prelude.{◌≡◌, ◌+◌, ◌%◌, ◌^◌, ℕ, zero, suc, max, min, ℤ, Bool, false, nat_eq, List, [], ◌∷◌, slice_index, Option, None, Some, if◌then◌else◌}
use Rattle.std.specs.List.{insert}
use Rattle.std.specs.Option.{unwrap_or}
use Rattle.std.specs.Int.{Width, cast_signed, cast_unsigned}
use mir.Val.{bits}
use Rattle.nd_shape_and_slice.specs.LayoutIndexMaps.{indexed_shape}
use Rattle.nd_elements.specs.ShapeAndElements.{Meaning, inside}

abbrev pub sum_below : (ℕ → ℕ) → ℕ → ℕ
sum_below f zero = 0
sum_below f (suc n) = sum_below f n + f n

abbrev pub max_below : ℕ → (ℕ → ℕ) → ℕ → ℕ
max_below first f zero = first
max_below first f (suc n) = max (max_below first f n) (f n)

abbrev pub min_below : ℕ → (ℕ → ℕ) → ℕ → ℕ
min_below first f zero = first
min_below first f (suc n) = min (min_below first f n) (f n)

abbrev pub count_below : (ℕ → Bool) → ℕ → ℕ
count_below test zero = 0
count_below test (suc n) = count_below test n + (if test n then 1 else 0)

abbrev pub sum_over : List ℕ → (List ℕ → ℕ) → ℕ
sum_over [] f = f []
sum_over (n ∷ ns) f = sum_below (λ i. sum_over ns (λ is. f (i ∷ is))) n

abbrev pub count_over : List ℕ → (List ℕ → Bool) → ℕ
count_over ns test = sum_over ns (λ i. if test i then 1 else 0)

abbrev pub value_or_0 : Option ℕ → ℕ
value_or_0 None = 0
value_or_0 (Some x) = x

abbrev pub is_value : ℕ → Option ℕ → Bool
is_value value None = false
is_value value (Some x) = nat_eq x value

abbrev pub bits_or_0 : Width → Option ℤ → ℕ
bits_or_0 w None = 0
bits_or_0 w (Some x) = cast_unsigned w x

-- Returns the element at the coordinate `k` of the axis `a` in the lane at the index `i` of the other axes.
abbrev pub in_lane : {A : Type 0} → Meaning A → ℕ → List ℕ → ℕ → Option A
in_lane m a i k = m.at (insert i a k)

-- Says that `result` gives at each index of the axes other than `a` the sum of the lane there, modulo `modulus`.
abbrev pub AreLaneSums : ℕ → Meaning ℕ → ℕ → (List ℕ → Option ℕ) → Type 0
AreLaneSums modulus m a result = (i : List ℕ) → result i ≡ inside (indexed_shape m.shape a) i (Some (sum_below (λ k. value_or_0 (in_lane m a i k)) (slice_index m.shape a) % modulus))

-- Says that `result` gives at each index of the axes other than `a` the sum of the lane of signed numbers there, as it
-- wraps at the width `w`.
abbrev pub AreSignedLaneSums : Width → Meaning ℤ → ℕ → (List ℕ → Option ℤ) → Type 0
AreSignedLaneSums w m a result = (i : List ℕ) → result i ≡ inside (indexed_shape m.shape a) i (Some (cast_signed w (sum_below (λ k. bits_or_0 w (in_lane m a i k)) (slice_index m.shape a) % 2 ^ bits w)))

-- Says that `result` gives at each index of the axes other than `a` the greatest of `first` and of the elements of the
-- lane there.
abbrev pub AreLaneMaxima : Meaning ℕ → ℕ → ℕ → (List ℕ → Option ℕ) → Type 0
AreLaneMaxima m a first result = (i : List ℕ) → result i ≡ inside (indexed_shape m.shape a) i (Some (max_below first (λ k. unwrap_or (in_lane m a i k) first) (slice_index m.shape a)))

-- Says that `result` gives at each index of the axes other than `a` the least of `first` and of the elements of the
-- lane there.
abbrev pub AreLaneMinima : Meaning ℕ → ℕ → ℕ → (List ℕ → Option ℕ) → Type 0
AreLaneMinima m a first result = (i : List ℕ) → result i ≡ inside (indexed_shape m.shape a) i (Some (min_below first (λ k. unwrap_or (in_lane m a i k) first) (slice_index m.shape a)))

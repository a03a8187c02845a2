-- A shape is a list with one length for each axis, and an index of it is a list with one coordinate for each axis.
-- The definitions here use no storage and no strides.
use Rattle.std.specs.Prelude.{ℕ, ◌+◌, ◌*◌, ◌/◌, ◌%◌, ◌^◌, ◌<◌, Bool, true, false, ◌&&◌, nat_lt, List, [], ◌∷◌, map, zero, suc}
use Rattle.std.specs.List.{flat_map, range_with_len}

-- Returns whether the index is one of the shape: it has one coordinate for each axis, each below the axis's length.
abbrev pub in_box : List ℕ → List ℕ → Bool
in_box [] [] = true
in_box [] (i ∷ is) = false
in_box (n ∷ ns) [] = false
in_box (n ∷ ns) (i ∷ is) = nat_lt i n && in_box ns is

-- Returns how many elements a shape has: the product of its lengths.
abbrev pub size_of : List ℕ → ℕ
size_of [] = 1
size_of (n ∷ ns) = n * size_of ns

-- Returns the product of the lengths that aren't 0.
abbrev pub nonzero_product : List ℕ → ℕ
nonzero_product [] = 1
nonzero_product (zero ∷ ns) = nonzero_product ns
nonzero_product (suc n ∷ ns) = suc n * nonzero_product ns

-- Says that the shape has a checked size: the product of the lengths that aren't 0 is at most `isize::MAX`.
abbrev pub HasCheckedSize : List ℕ → Type 0
HasCheckedSize ns = nonzero_product ns < 2 ^ 63

-- Returns the row-major rank of an index, where the last axis runs fastest.
abbrev pub row_rank : List ℕ → List ℕ → ℕ
row_rank [] is = 0
row_rank (n ∷ ns) [] = 0
row_rank (n ∷ ns) (i ∷ is) = i * size_of ns + row_rank ns is

-- Returns the column-major rank of an index, where the first axis runs fastest.
abbrev pub column_rank : List ℕ → List ℕ → ℕ
column_rank [] is = 0
column_rank (n ∷ ns) [] = 0
column_rank (n ∷ ns) (i ∷ is) = i + n * column_rank ns is

-- Returns the index of this row-major rank.
abbrev pub index_at : List ℕ → ℕ → List ℕ
index_at [] rank = []
index_at (n ∷ ns) rank = (rank / size_of ns) ∷ index_at ns (rank % size_of ns)

-- Returns all indexes of a shape in row-major order.
abbrev pub indexes_of : List ℕ → List (List ℕ)
indexes_of [] = [] ∷ []
indexes_of (n ∷ ns) = flat_map (λ i. map (λ is. i ∷ is) (indexes_of ns)) (range_with_len 0 n)

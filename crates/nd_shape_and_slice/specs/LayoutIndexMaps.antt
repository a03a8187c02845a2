-- The shape that a layout call makes, and the old index that each new index names.
use Rattle.std.specs.Prelude.{ℕ, ◌+◌, ◌-◌, min, length, replicate, List, [], ◌∷◌, slice_set, slice_index}
use Rattle.std.specs.List.{remove, insert}

-- Returns the old index that the index `i` names after axis `a` is inverted: its coordinate counts from the far end.
abbrev pub inverted_index : List ℕ → ℕ → List ℕ → List ℕ
inverted_index ns a i = slice_set i a (slice_index ns a - 1 - slice_index i a)

-- Returns the shape after only one coordinate of axis `a` is kept, and the axis stays with length 1.
abbrev pub collapsed_shape : List ℕ → ℕ → List ℕ
collapsed_shape ns a = slice_set ns a 1

-- Returns the old index that the index `i` names after only coordinate `k` of axis `a` is kept.
abbrev pub collapsed_index : ℕ → ℕ → List ℕ → List ℕ
collapsed_index a k i = slice_set i a k

-- Returns the shape of the part whose coordinates on axis `a` are below `k`.
abbrev pub lower_shape : List ℕ → ℕ → ℕ → List ℕ
lower_shape ns a k = slice_set ns a k

-- Returns the shape of the part whose coordinates on axis `a` are `k` or more.
abbrev pub upper_shape : List ℕ → ℕ → ℕ → List ℕ
upper_shape ns a k = slice_set ns a (slice_index ns a - k)

-- Returns the old index that the index `i` names in the part whose coordinates on axis `a` are `k` or more.
abbrev pub upper_index : ℕ → ℕ → List ℕ → List ℕ
upper_index a k i = slice_set i a (slice_index i a + k)

-- Returns the shape after one coordinate of axis `a` is kept and the axis is taken out.
abbrev pub indexed_shape : List ℕ → ℕ → List ℕ
indexed_shape ns a = remove ns a

-- Returns the old index that the index `i` names after coordinate `k` of axis `a` is kept and the axis is taken out.
abbrev pub indexed_index : ℕ → ℕ → List ℕ → List ℕ
indexed_index a k i = insert i a k

-- Returns the shape after a new axis of length 1 is put in at position `a`.
abbrev pub inserted_shape : List ℕ → ℕ → List ℕ
inserted_shape ns a = insert ns a 1

-- Returns the old index that the index `i` names after a new axis is put in at position `a`.
abbrev pub inserted_index : ℕ → List ℕ → List ℕ
inserted_index a i = remove i a

-- Returns the least number among `m` and the list.
abbrev pub least_of : ℕ → List ℕ → ℕ
least_of m [] = m
least_of m (n ∷ ns) = least_of (min m n) ns

-- The length of the diagonal: the least length of the shape, or 1 where there are no axes.
abbrev pub diagonal_length : List ℕ → ℕ
diagonal_length [] = 1
diagonal_length (n ∷ ns) = least_of n ns

-- Returns the index of the diagonal element that `i` names: each axis has the only coordinate of `i`.
abbrev pub diagonal_index : List ℕ → List ℕ → List ℕ
diagonal_index ns i = replicate (length ns) (slice_index i 0)

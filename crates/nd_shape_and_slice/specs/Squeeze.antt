-- Which axes a squeeze leaves: those whose length isn't 1, or the first axis where there is no such axis.
use Rattle.std.specs.Prelude.{ℕ, Bool, true, false, not, ◌&&◌, ◌||◌, nat_eq, nat_lt, List, [], ◌∷◌, length, map, slice_index, if◌then◌else◌}
use Rattle.std.specs.List.{remove, insert}

-- Returns whether the length isn't 1, so that the axis stays whatever its position is.
abbrev pub isnt_one : ℕ → Bool
isnt_one n = not (nat_eq n 1)

-- Returns whether all axes have length 1.
abbrev pub all_one : List ℕ → Bool
all_one [] = true
all_one (n ∷ ns) = nat_eq n 1 && all_one ns

-- Returns for each axis whether it stays.
abbrev pub stays : List ℕ → List Bool
stays [] = []
stays (n ∷ ns) = (isnt_one n || all_one ns) ∷ map isnt_one ns

-- Returns the items whose flag is true.
abbrev pub kept_of : {A : Type 0} → List Bool → List A → List A
kept_of [] xs = []
kept_of (b ∷ bs) [] = []
kept_of (true ∷ bs) (x ∷ xs) = x ∷ kept_of bs xs
kept_of (false ∷ bs) (x ∷ xs) = kept_of bs xs

-- Returns the old index that the index `is` names: it has the coordinates of `is` on the axes that stay, and 0 on the
-- others.
abbrev pub spread_over : List Bool → List ℕ → List ℕ
spread_over [] is = []
spread_over (true ∷ bs) [] = 0 ∷ spread_over bs []
spread_over (true ∷ bs) (i ∷ is) = i ∷ spread_over bs is
spread_over (false ∷ bs) is = 0 ∷ spread_over bs is

-- Returns the shape after the squeeze.
abbrev pub squeezed_shape : List ℕ → List ℕ
squeezed_shape ns = kept_of (stays ns) ns

-- Returns the old index that the index `i` names after the squeeze.
abbrev pub squeezed_index : List ℕ → List ℕ → List ℕ
squeezed_index ns i = spread_over (stays ns) i

-- Returns whether axis `a` is taken out when it is considered alone: it has length 1 and isn't the only axis.
abbrev pub goes_at : List ℕ → ℕ → Bool
goes_at ns a = nat_eq (slice_index ns a) 1 && nat_lt 1 (length ns)

-- Returns the shape after axis `a` is taken out, if it has length 1 and isn't the only axis.
abbrev pub shape_squeezed_at : List ℕ → ℕ → List ℕ
shape_squeezed_at ns a = if goes_at ns a then remove ns a else ns

-- Returns the old index that the index `i` names after axis `a` is taken out, if it has length 1 and isn't the only
-- axis.
abbrev pub index_squeezed_at : List ℕ → ℕ → List ℕ → List ℕ
index_squeezed_at ns a i = if goes_at ns a then insert i a 0 else i

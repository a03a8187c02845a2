-- Lists of axes, and what lists of lengths and of coordinates become when axes are put in another order or one of
-- them is changed.
use Rattle.std.specs.Prelude.{ℕ, ◌≡◌, ◌<◌, ◌==◌, ◌&&◌, Bool, List, length, map, slice_index}
use Rattle.std.specs.List.{count_by, list_all, position_or_len, range_with_len}

-- Says that each axis below `n` stands in the list exactly once.
abbrev pub HasEachBelow : List ℕ → ℕ → Type 0
HasEachBelow axes n = (a : ℕ) → a < n → count_by (λ b. b == a) axes ≡ 1

-- Says that the list names each of `n` axes exactly once, and nothing else.
abbrev pub HasEachAxis : List ℕ → ℕ → Type 0
HasEachAxis axes n = (length axes ≡ n) × HasEachBelow axes n

-- Returns whether the list names each of `n` axes exactly once, and nothing else.
abbrev pub names_each_axis : List ℕ → ℕ → Bool
names_each_axis axes n = (length axes == n) && list_all (λ a. count_by (λ b. b == a) axes == 1) (range_with_len 0 n)

-- Returns the list in the order of `axes`: at position k stands the item that `xs` has at the k-th of the axes.
abbrev pub permuted_list : List ℕ → List ℕ → List ℕ
permuted_list axes xs = map (λ a. slice_index xs a) axes

-- Undoes `permuted_list`: at axis a stands the item that `xs` has at the position of a in `axes`.
abbrev pub unpermuted_list : List ℕ → List ℕ → List ℕ
unpermuted_list axes xs = map (λ a. slice_index xs (position_or_len (λ b. b == a) axes)) (range_with_len 0 (length axes))

-- The distance of two arrays of floats, and the means of windows of so many neighbours of a list.
use Rattle.std.specs.Prelude.{◌+◌, ◌&&◌, ◌-◌, ℕ, pos, Bool, List, [], ◌∷◌, Option, nat_le, if◌then◌else◌}
use Rattle.std.specs.List.{fold}
use Rattle.std.specs.Float.{binary64, float_zero, sqrt}
use Rattle.std.specs.Float.Ieee.{Float, add, sub, mul, div, of_int}
use Rattle.nd_array_core.specs.CollectedElements.{collected}
use Rattle.nd_array_core.specs.Prelude.{Line, Meaning, option_both, row_major_elements}

-- Returns the square of the difference of two numbers.
abbrev pub squared_difference : Float → Float → Float
squared_difference x y = mul binary64 (sub binary64 x y) (sub binary64 x y)

-- Returns the squares of the differences of the elements of an array and of those that `at` gives.
abbrev pub squares_of : Meaning Float → (List ℕ → Option Float) → Meaning Float
squares_of one at = record { shape = one.shape; at = λ i. option_both squared_difference (one.at i) (at i) }

-- Returns the square root of the sum of these squares, which are added to 0 one after the other in row-major order.
abbrev pub distance_of : Meaning Float → (List ℕ → Option Float) → Float
distance_of one at = sqrt binary64 (fold (add binary64) float_zero (row_major_elements (squares_of one at)))

-- Returns the elements of two arrays of one shape side by side, in row-major order.
abbrev pub side_by_side : Meaning Float → Meaning Float → Meaning (Float × Float)
side_by_side one other = record { shape = one.shape; at = λ i. option_both (λ x y. (x, y)) (one.at i) (other.at i) }

-- Returns the sum of the squared differences of the elements at each index, one after the other in row-major order.
abbrev pub squared_distance_of : Meaning Float → Meaning Float → Float
squared_distance_of one other = fold (λ sum p. add binary64 sum (squared_difference p.0 p.1)) float_zero (row_major_elements (side_by_side one other))

-- Returns the sum of `width` numbers of a list from the coordinate `from` on, added to 0 in rising order.
abbrev pub window_sum : ℕ → Line Float → ℕ → Float
window_sum width line from = fold (add binary64) float_zero (collected (λ k. line.cells (from + k)) width)

-- Returns whether a list has `width` numbers from the coordinate `from` on.
abbrev pub window_fits : ℕ → Line Float → ℕ → Bool
window_fits width line from = nat_le from line.count && nat_le width (line.count - from)

-- Returns the mean of the window that begins at the coordinate `from`, and 0 if the list ends before the window does.
abbrev pub window_mean_at : ℕ → Line Float → ℕ → Float
window_mean_at width line from =
    if window_fits width line from then div binary64 (window_sum width line from) (of_int binary64 (pos width))
    else float_zero

-- Returns the mean of the window that begins at an index of one coordinate, whatever number stands there now.
abbrev pub window_mean : ℕ → Line Float → List ℕ → Float → Float
window_mean width line [] x = x
window_mean width line (from ∷ []) x = window_mean_at width line from
window_mean width line (i ∷ j ∷ is) x = x

-- Steps that make each row of a picture from one row of it: which these are, and how many rows and columns they make.
use Rattle.std.specs.Prelude.{◌≡◌, ◌<◌, ℕ, ◌+◌, ◌-◌, min, Bool, true, false, ◌&&◌, List, [], ◌∷◌, Ok}
use Rattle.nd_picture_text.specs.declared.step.Step.{Step}
use Rattle.nd_picture_text.specs.declared.step.Step.TheVariants.{Crop, Flop, ScaleDown, Threshold, Invert, Gray, Plain, Raw}
use Rattle.nd_picture.specs.PictureChanges.{Picture, ceiling}
use Rattle.nd_picture.specs.StepListResults.{after_all}

-- Returns whether the step makes each row of a picture from one row of it, and leaves the rows in order.
abbrev pub is_by_rows : Step → Bool
is_by_rows (Crop top left height width) = true
is_by_rows Flop = true
is_by_rows (ScaleDown k) = true
is_by_rows (Threshold limit) = true
is_by_rows Invert = true
is_by_rows Gray = true
is_by_rows Plain = true
is_by_rows Raw = true
is_by_rows _ = false

-- Returns whether all steps do so.
abbrev pub are_by_rows : List Step → Bool
are_by_rows [] = true
are_by_rows (step ∷ steps) = is_by_rows step && are_by_rows steps

-- Returns how many rows the step makes of the first `count` rows of a picture.
abbrev pub rows_made : Step → ℕ → ℕ
rows_made (Crop top left height width) count = min (count - top) height
rows_made (ScaleDown k) count = ceiling count k
rows_made _ count = count

-- Returns how many rows the steps make of the first `count` rows of a picture.
abbrev pub rows_made_each : List Step → ℕ → ℕ
rows_made_each [] count = count
rows_made_each (step ∷ steps) count = rows_made_each steps (rows_made step count)

-- Returns how many rows the steps make of the `count` rows of a picture from the row `first` on.
abbrev pub rows_made_between : List Step → ℕ → ℕ → ℕ
rows_made_between steps first count = rows_made_each steps (first + count) - rows_made_each steps first

-- Returns how many columns the step makes of `count` columns.
abbrev pub columns_made : Step → ℕ → ℕ
columns_made (Crop top left height width) count = width
columns_made (ScaleDown k) count = ceiling count k
columns_made _ count = count

-- Says that where the step keeps one of so many rows, it keeps one of a row at least.
abbrev pub HasFactor : Step → Type 0
HasFactor (ScaleDown k) = 0 < k
HasFactor _ = Unit {0}

-- Says that all steps can be taken on each picture of so many rows and columns, and that it then has `sides.0` rows and
-- `sides.1` columns.
abbrev pub TakesAll : ℕ → List Step → ℕ → ℕ → ℕ × ℕ → Type 0
TakesAll maxval steps rows columns sides =
    (p : Picture) → p.height ≡ rows → p.width ≡ columns → (q : Picture) × (after_all maxval 1 steps p ≡ Ok q) × (q.height ≡ sides.0) × (q.width ≡ sides.1)

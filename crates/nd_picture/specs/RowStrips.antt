-- Strips: some rows of a picture, one after the other, and those that a step makes of them.
use Rattle.std.specs.Prelude.{◌≡◌, ◌≤◌, ℕ, ◌+◌, true, List, slice_index, Ok}
use Rattle.nd_array_core.specs.ArrayMeaning.{meaning_of, shape_of}
use Rattle.nd_picture_text.specs.declared.step.Step.{Step}
use Rattle.nd_picture.specs.declared.steps_on_row_strips.Strip.{Strip}
use Rattle.nd_picture.specs.PictureChanges.{Picture, Shows, rows_from}
use Rattle.nd_picture.specs.RowwiseSteps.{is_by_rows, are_by_rows, rows_made, rows_made_each}
use Rattle.nd_picture.specs.StepListResults.{fits, picture_after, after_all}

-- Returns how many rows the strip has.
abbrev pub rows_in : Strip → ℕ
rows_in s = slice_index (shape_of s.rows) 0

-- Returns the number of the row of the picture that comes after those of the strip.
abbrev pub row_after : Strip → ℕ
row_after s = s.first + rows_in s

-- Says that the strip is one of the picture, which has at most as many rows as an image can have.
abbrev pub IsStripOf : Strip → Picture → Type 0
IsStripOf s p = (p.height ≤ 1000000000) × (row_after s ≤ p.height) × Shows (meaning_of s.rows) (rows_from s.first (rows_in s) p)

-- Says that the strip is one of a picture on which the step can be taken, row by row.
abbrev pub MeetsStep : ℕ → Step → Strip → Type 0
MeetsStep maxval step s = (is_by_rows step ≡ true) × (p : Picture) × IsStripOf s p × (fits maxval step p.height p.width ≡ true)

-- Says that `t` are the rows that the step makes of those of the strip `s`.
abbrev pub IsStripAfter : ℕ → Step → Strip → Strip → Type 0
IsStripAfter maxval step s t =
    ((p : Picture) → IsStripOf s p → fits maxval step p.height p.width ≡ true → IsStripOf t (picture_after maxval step p))
    × (t.first ≡ rows_made step s.first) × (row_after t ≡ rows_made step (row_after s))

-- Says that the strip is one of a picture on which all steps can be taken, row by row, where they are numbered from
-- `number` on.
abbrev pub MeetsSteps : ℕ → List Step → Strip → Type 0
MeetsSteps maxval steps s = (are_by_rows steps ≡ true) × (p q : Picture) × (number : ℕ) × IsStripOf s p × (after_all maxval number steps p ≡ Ok q)

-- Says that `t` are the rows that all steps make of those of the strip `s`.
abbrev pub IsStripAfterAll : ℕ → List Step → Strip → Strip → Type 0
IsStripAfterAll maxval steps s t =
    ((p q : Picture) (number : ℕ) → IsStripOf s p → after_all maxval number steps p ≡ Ok q → IsStripOf t q)
    × (t.first ≡ rows_made_each steps s.first) × (row_after t ≡ rows_made_each steps (row_after s))

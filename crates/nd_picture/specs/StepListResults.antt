-- A list of steps: when each is refused, and what it gives.
use Rattle.std.specs.Prelude.{◌≡◌, ℕ, ◌+◌, ◌*◌, ◌^◌, Bool, true, false, IsTrue, ◌&&◌, nat_lt, nat_le, List, [], ◌∷◌, slice_get, Some, Result, Ok, Err, IfErr, ◌<◌, if◌then◌else◌}
use Rattle.nd_array_core.specs.ArrayMeaning.{Meaning}
use Rattle.nd_picture_text.specs.declared.image_formats.Kind.{Kind}
use Rattle.nd_picture_text.specs.declared.image_formats.Header.{Header}
use Rattle.nd_picture_text.specs.ImageFormatsAndHeaders.{gray_kind, plain_kind, raw_kind}
use Rattle.nd_picture_text.specs.declared.step.Step.{Step}
use Rattle.nd_picture_text.specs.declared.step.Step.TheVariants.{Crop, Flip, Flop, RotateQuarter, RotateHalf, RotateBack, Transpose, ScaleDown, Threshold, Invert, Blur, Gray, Border, Shrink, Plain, Raw}
use Rattle.nd_picture.specs.declared.image_steps_applied.PictureStepsError.{PictureStepsError}
use Rattle.nd_picture.specs.declared.image_steps_applied.PictureStepsError.TheVariants.{Refused, Memory}
use Rattle.nd_picture.specs.PictureSampleLists.{FitsHeader}
use Rattle.nd_picture.specs.PictureChanges.{Picture, Shows, picture_cropped, picture_flipped, picture_flopped, picture_transposed, picture_turned_quarter, picture_turned_half, picture_turned_back, picture_scaled_down, picture_changed, over, picture_inverted, picture_blurred, picture_grayed, picture_bordered, picture_shrunk}

-- Returns whether `count` rows, or columns, from `first` on lie within `all`, and are at least one.
abbrev pub lie_within : ℕ → ℕ → ℕ → Bool
lie_within first count all = nat_lt 0 count && nat_le (first + count) all

-- Returns whether so many rows, or columns, and a border before and after them are at most as many as an image can have.
abbrev pub is_within_limit : ℕ → ℕ → Bool
is_within_limit border all = nat_le (all + 2 * border) 1000000000

-- Returns whether a factor is at least 1 and below 2^63.
abbrev pub is_factor : ℕ → Bool
is_factor k = nat_lt 0 k && nat_lt k (2 ^ 63)

-- Returns whether the step can be taken on a picture of so many rows and columns: a part has pixels and lies in the
-- picture, a factor is one, and the samples of a border are at most the maxval and leave the picture's sides in limits.
abbrev pub fits : ℕ → Step → ℕ → ℕ → Bool
fits maxval (Crop top left height width) rows columns = lie_within top height rows && lie_within left width columns
fits maxval (ScaleDown k) rows columns = is_factor k
fits maxval (Border border value) rows columns = nat_le value maxval && (is_within_limit border rows && is_within_limit border columns)
fits maxval (Shrink k) rows columns = is_factor k
fits maxval _ rows columns = true

-- Returns the picture after the step, where the maxval is `maxval`.
abbrev pub picture_after : ℕ → Step → Picture → Picture
picture_after maxval (Crop top left height width) p = picture_cropped top left height width p
picture_after maxval Flip p = picture_flipped p
picture_after maxval Flop p = picture_flopped p
picture_after maxval RotateQuarter p = picture_turned_quarter p
picture_after maxval RotateHalf p = picture_turned_half p
picture_after maxval RotateBack p = picture_turned_back p
picture_after maxval Transpose p = picture_transposed p
picture_after maxval (ScaleDown k) p = picture_scaled_down k p
picture_after maxval (Threshold limit) p = picture_changed (over maxval limit) p
picture_after maxval Invert p = picture_inverted maxval p
picture_after maxval Blur p = picture_blurred p
picture_after maxval Gray p = picture_grayed maxval p
picture_after maxval (Border border value) p = picture_bordered border value p
picture_after maxval (Shrink k) p = picture_shrunk k p
picture_after maxval Plain p = p
picture_after maxval Raw p = p

-- Returns the format of an image after the step.
abbrev pub kind_after : Step → Kind → Kind
kind_after Gray kind = gray_kind kind
kind_after Plain kind = plain_kind kind
kind_after Raw kind = raw_kind kind
kind_after _ kind = kind

-- Returns the format of an image after all steps, in order.
abbrev pub kind_after_each : List Step → Kind → Kind
kind_after_each [] kind = kind
kind_after_each (step ∷ steps) kind = kind_after_each steps (kind_after step kind)

-- Returns the header with the format that an image has after all steps.
abbrev pub header_after : List Step → Header → Header
header_after steps h = record { kind = kind_after_each steps h.kind; width = h.width; height = h.height; maxval = h.maxval }

-- Returns whether the step makes new samples, and so may take memory.
abbrev pub makes_samples : Step → Bool
makes_samples Blur = true
makes_samples Gray = true
makes_samples (Border border value) = true
makes_samples (Shrink k) = true
makes_samples _ = false

-- Returns the picture after all steps, in order, or the first step that can't be taken, with its number, where the
-- steps are numbered from `number` on.
abbrev pub after_all : ℕ → ℕ → List Step → Picture → Result Picture (ℕ × Step)
after_all maxval number [] p = Ok p
after_all maxval number (step ∷ steps) p = if fits maxval step p.height p.width then after_all maxval (number + 1) steps (picture_after maxval step p) else Err (number, step)

-- Returns the picture after all steps, each of which can be taken.
abbrev pub after_each : ℕ → List Step → Picture → Picture
after_each maxval [] p = p
after_each maxval (step ∷ steps) p = after_each maxval steps (picture_after maxval step p)

-- Says that the error is that of the step that can't be taken. Of lacking memory it says nothing.
abbrev pub IsRefusedAt : PictureStepsError → Result Picture (ℕ × Step) → Type 0
IsRefusedAt (Refused number step) end = end ≡ Err (number, step)
IsRefusedAt Memory end = Unit {0}

-- Says that the code ended with an array that shows the picture, or with the step that can't be taken and its number,
-- unless memory ran out.
abbrev pub GivesPicture : {X : Type 0} → (X → Meaning ℕ) → Result X PictureStepsError → Result Picture (ℕ × Step) → Type 0
GivesPicture view (Ok x) end = (p : Picture) × (end ≡ Ok p) × Shows (view x) p
GivesPicture view (Err error) end = IsRefusedAt error end

-- Says that, for each picture that the array `m` shows, the code ended with an array that shows the picture after all
-- steps, or with the first step that can't be taken and its number, unless memory ran out.
abbrev pub GivesAfter : {X : Type 0} → (X → Meaning ℕ) → ℕ → List Step → Meaning ℕ → Result X PictureStepsError → Type 0
GivesAfter view maxval steps m result = (p : Picture) → Shows m p → GivesPicture view result (after_all maxval 1 steps p)

-- Says that memory may run out on the picture that the array `m` shows: one of the steps makes new samples, and the
-- first step that can't be taken, if there is one, comes after it.
abbrev pub LacksForSamples : ℕ → List Step → Meaning ℕ → Type 0
LacksForSamples maxval steps m =
    (nth : ℕ) × (step : Step) × (slice_get steps nth ≡ Some step) × IsTrue (makes_samples step) × ((p : Picture) → Shows m p → IfErr (after_all maxval 1 steps p) (λ refused. nth + 1 < refused.0))

-- Says that where an image with the header `h` and this maxval can have the picture that the array `m` shows, one with
-- the header after the steps can have that of `n`.
abbrev pub StillFits : ℕ → List Step → Meaning ℕ → Meaning ℕ → Type 0
StillFits maxval steps m n = (h : Header) → h.maxval ≡ maxval → FitsHeader h m → FitsHeader (header_after steps h) n

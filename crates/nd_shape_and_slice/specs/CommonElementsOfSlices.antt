-- The elements of an array that two lists of slices both name.
use Rattle.std.specs.Prelude.{ℕ, suc, ◌+◌, ◌-◌, ◌*◌, ◌<◌, ◌≤◌, ◌≡◌, nat_le, Bool, true, ℤ, pos, negsuc, List, [], ◌∷◌, IsTrue}
use Rattle.std.specs.Option.{unwrap_or}
use Rattle.nd_shape_and_slice.specs.declared.slice_info.SliceInfoElem.{SliceInfoElem}
use Rattle.nd_shape_and_slice.specs.declared.slice_info.SliceInfoElem.TheVariants.{Slice as Part, Index, NewAxis}
use Rattle.nd_shape_and_slice.specs.Slice.{sliced_length, sliced_from}
use Rattle.nd_shape_and_slice.specs.ShapesAndIndexOrders.{in_box}
use Rattle.nd_shape_and_slice.specs.SliceInfo.{coordinate_on, shape_after, index_before}

-- Says that the list of slices `es` names this index of an array of the shape `ns`.
pub record IsNamed (ns : List ℕ) (es : List SliceInfoElem) (index : List ℕ) : Type 0 where
  pub new : List ℕ
  pub in_result : IsTrue (in_box (shape_after ns es) new)
  pub stands_for : index_before ns es new ≡ index

-- Says that some index of the array is named by both lists of slices.
pub record Intersect (ns : List ℕ) (es fs : List SliceInfoElem) : Type 0 where
  pub common : List ℕ
  pub in_first : IsNamed ns es common
  pub in_second : IsNamed ns fs common

-- Says that `w` is the least number for which `c + m * w` is a multiple of `d`, that `w` is below `d`, and that `t`
-- is the quotient.
pub record IsFirstMultiple (d c m w t : ℕ) : Type 0 where
  pub equal : d * t ≡ c + m * w
  pub below : w < d
  pub least : (v u : ℕ) → d * u ≡ c + m * v → w ≤ v

-- Says that two progressions have a number in common: the one has `count` numbers from `low` on in steps of `step`,
-- and the other has `count'` numbers from `low'` on in steps of `step'`.
pub record Share (low step count low' step' count' : ℕ) : Type 0 where
  pub at_first : ℕ
  pub at_second : ℕ
  pub in_first : at_first < count
  pub in_second : at_second < count'
  pub equal : low + at_first * step ≡ low' + at_second * step'

-- Says that an element of a list of slices names the coordinate `x` of an axis of length `n`. A new axis reads no
-- axis, and counts as naming every coordinate.
abbrev pub NamesOn : ℕ → SliceInfoElem → ℕ → Type 0
NamesOn n (Part start end step) x = (i : ℕ) × (i < sliced_length n (record { start = start; end = end; step = step })) × (sliced_from n (record { start = start; end = end; step = step }) i ≡ x)
NamesOn n (Index k) x = unwrap_or (coordinate_on n k) 0 ≡ x
NamesOn n NewAxis x = x < n

-- Says that the element `e` names exactly these coordinates of an axis of length `n`: `count` numbers from `low` on
-- in steps of `step`.
pub record IsProgression (n : ℕ) (e : SliceInfoElem) (low step count : ℕ) : Type 0 where
  pub steps : 0 < step
  pub is_named : (t : ℕ) → t < count → NamesOn n e (low + t * step)
  pub only : (x : ℕ) → NamesOn n e x → (t : ℕ) × (t < count) × (low + t * step ≡ x)

-- Returns the list from the first element on that reads an axis.
abbrev pub from_reader : List SliceInfoElem → List SliceInfoElem
from_reader [] = []
from_reader (Part start end step ∷ es) = Part start end step ∷ es
from_reader (Index k ∷ es) = Index k ∷ es
from_reader (NewAxis ∷ es) = from_reader es

-- The lowest of `count` coordinates that lie a step apart, where `first` is the first of them.
abbrev pub lowest_from : ℕ → ℕ → ℤ → ℕ
lowest_from first count (pos step) = first
lowest_from first count (negsuc step) = first - (count - 1) * suc step

-- Returns whether none of `count` coordinates that lie a step apart is below 0, where `first` is the first of them.
abbrev pub stays_above : ℕ → ℕ → ℤ → Bool
stays_above first count (pos step) = true
stays_above first count (negsuc step) = nat_le ((count - 1) * suc step) first

-- What a constructor is given its elements in, why it refuses them, and how it lays them out.
use Rattle.std.specs.Prelude.{◌≡◌, ◌<◌, ℕ, nat_lt, Bool, true, false, List, ℤ, Option, Some, None, ⊤, if◌then◌else◌, IsTrue}
use Rattle.nd_shape_and_slice.specs.ShapesAndIndexOrders.{in_box, size_of}
use Rattle.nd_shape_and_slice.specs.PlacesAndOverlaps.{place_of, IsSeparated}
use Rattle.nd_shape_and_slice.specs.declared.shape_builder.Order.{Order}
use Rattle.nd_layout.specs.GivenStrides.{given_place, given_strides, offset_given}
use Rattle.nd_elements.specs.StoragePlaces.{HoldsAll}
use Rattle.nd_layout.specs.LayoutStepsOfCalls.{Placement}
use Rattle.nd_shape_and_slice.specs.declared.errors.ErrorKind.{ErrorKind}
use Rattle.nd_layout.specs.ConstructorRefusals.{vec_refusal, slice_refusal, slice_mut_refusal}
use Rattle.nd_array_core.specs.declared.base.from_shape.GivenIn.{GivenIn}
use Rattle.nd_array_core.specs.declared.base.from_shape.GivenIn.TheVariants.{Vector, Slice, SliceMut}
use Rattle.nd_array_core.specs.scoped.SlicesLentAsViews.{GivenShape}

-- Returns why a shape, strides given by the caller and a count of elements don't fit together, or None where they do.
abbrev pub refusal_in : GivenIn → List ℕ → Option (List ℤ) → ℕ → Option ErrorKind
refusal_in Vector = vec_refusal
refusal_in Slice = slice_refusal
refusal_in SliceMut = slice_mut_refusal

-- Returns whether strides given by the caller must lead each index to a place of its own.
abbrev pub is_apart_in : GivenIn → Bool
is_apart_in Vector = true
is_apart_in Slice = false
is_apart_in SliceMut = true

-- Returns a map that holds something at the places below `n`, and nothing at others.
abbrev pub first_places : ℕ → ℕ → Option ⊤
first_places n p = if nat_lt p n then Some tt else None

-- Says that `count` elements lie by `layout` as the given lengths, order and strides say: each index lies at the place
-- that they give it, which is below `count`, and no two indexes share a place where `alone` is true.
pub record IsLaidOut (lengths : List ℕ) (order : Order) (strides : Option (List ℤ)) (alone : Bool) (count : ℕ) (layout : Placement) : Type 0 where
  pub offset_is : layout.offset ≡ offset_given lengths strides
  pub lengths_are : layout.lengths ≡ lengths
  pub strides_are : layout.strides ≡ given_strides lengths order strides
  pub places : (i : List ℕ) → IsTrue (in_box lengths i) → place_of layout.offset layout.strides i ≡ given_place lengths order strides i
  pub holds : HoldsAll (first_places count) layout.offset layout.lengths layout.strides
  pub own_places : IsTrue alone → 0 < size_of lengths → IsSeparated layout.lengths layout.strides

-- Says that the strides keep the indexes apart, if no two indexes may share an element and there are elements.
abbrev pub KeepsApartIn : GivenIn → List ℕ → List ℤ → Type 0
KeepsApartIn given_in ns ss = IsTrue (is_apart_in given_in) → 0 < size_of ns → IsSeparated ns ss

-- Returns why `count` elements can't be laid out by the shape that the caller gives, or None where they can.
abbrev pub refusal_meant : GivenIn → GivenShape → ℕ → Option ErrorKind
refusal_meant given_in given count = refusal_in given_in given.0 given.2 count

-- Says that `count` elements lie by `layout` as the shape that the caller gives says.
abbrev pub IsLaidOutAs : GivenShape → GivenIn → ℕ → Placement → Type 0
IsLaidOutAs given given_in count layout = IsLaidOut given.0 given.1 given.2 (is_apart_in given_in) count layout

-- Says that `count` elements lie by `layout` as the lengths `ns` and the caller's strides `ss` say, whatever the order.
abbrev pub IsLaidByStrides : List ℕ → List ℤ → GivenIn → ℕ → Placement → Type 0
IsLaidByStrides ns ss given_in count layout = (order : Order) → IsLaidOut ns order (Some ss) (is_apart_in given_in) count layout

-- Several lists of slices of one array.
use Rattle.std.specs.Prelude.{◌≡◌, ℕ, List, Option, IsTrue}
use Rattle.nd_shape_and_slice.specs.declared.slice_info.SliceInfoElem.{SliceInfoElem}
use Rattle.nd_shape_and_slice.specs.CommonElementsOfSlices.{Intersect}
use Rattle.nd_shape_and_slice.specs.SliceInfo.{fits_shape}
use Rattle.nd_shape_and_slice.specs.declared.dimension.Dimension as dimension
use Rattle.nd_shape_and_slice.specs.declared.dimension.AxisCount as axis_count
use Rattle.nd_shape_and_slice.specs.declared.dimension.StrideList as stride_list
use Rattle.nd_layout.specs.LayoutStepsOfCalls.{Placement, placement_of}
use Rattle.nd_elements.specs.StoragePlaces.{ShareNoPlace}
use Rattle.nd_elements.specs.declared.storage.Data as data_trait
use Rattle.nd_array_core.specs.declared.base.array.ArrayBase.{ArrayBase}
use Rattle.nd_array_core.specs.layout.ViewsOfStorageParts.{HoldsEachOnce, ViewsBy}
use Rattle.nd_array_core.specs.scoped.ViewTasks.{AreApart}

-- Says that no index of an array of shape `shape` is selected by both lists of slices.
abbrev pub NameNothingInCommon : List ℕ → List SliceInfoElem → List SliceInfoElem → Type 0
NameNothingInCommon shape es fs = ¬ (Intersect shape es fs)

-- Says that two lists of slices fit the shape, and that they select no element in common.
abbrev pub TwoFit : List ℕ → List SliceInfoElem → List SliceInfoElem → Type 0
TwoFit shape a b = IsTrue (fits_shape shape a) × IsTrue (fits_shape shape b) × NameNothingInCommon shape a b

-- Says that three lists of slices fit the shape, and that no two of them select an element in common.
abbrev pub ThreeFit : List ℕ → List SliceInfoElem → List SliceInfoElem → List SliceInfoElem → Type 0
ThreeFit shape a b c = IsTrue (fits_shape shape a) × TwoFit shape b c × NameNothingInCommon shape a b × NameNothingInCommon shape a c

-- Says that four lists of slices fit the shape, and that no two of them select an element in common.
abbrev pub FourFit : List ℕ → List SliceInfoElem → List SliceInfoElem → List SliceInfoElem → List SliceInfoElem → Type 0
FourFit shape a b c d = IsTrue (fits_shape shape a) × ThreeFit shape b c d × NameNothingInCommon shape a b × NameNothingInCommon shape a c × NameNothingInCommon shape a d

-- Says that no two of three arrays share a place; each argument gives the place of each index of one array.
abbrev pub ThreeShareNoPlace : (List ℕ → Option ℕ) → (List ℕ → Option ℕ) → (List ℕ → Option ℕ) → Type 0
ThreeShareNoPlace a b c = ShareNoPlace a b × ShareNoPlace a c × ShareNoPlace b c

-- Says that no two of four arrays share a place; each argument gives the place of each index of one array.
abbrev pub FourShareNoPlace : (List ℕ → Option ℕ) → (List ℕ → Option ℕ) → (List ℕ → Option ℕ) → (List ℕ → Option ℕ) → Type 0
FourShareNoPlace a b c d = ThreeShareNoPlace b c d × ShareNoPlace a b × ShareNoPlace a c × ShareNoPlace a d

-- Says that the storage holds an element for each index of the placement `a`, and that its strides give each index a
-- place of its own.
abbrev pub HoldsOnceBy : {A : Type 0} → (ℕ → Option A) → Placement → Type 0
HoldsOnceBy stored a = HoldsEachOnce stored a.offset a.lengths a.strides

-- Says that the storage holds the elements of two placements, each with a place of its own within its placement.
abbrev pub TwoHeld : {A : Type 0} → (ℕ → Option A) → Placement → Placement → Type 0
TwoHeld stored a b = HoldsOnceBy stored a × HoldsOnceBy stored b

-- Says that the storage holds the elements of three placements, each with a place of its own within its placement.
abbrev pub ThreeHeld : {A : Type 0} → (ℕ → Option A) → Placement → Placement → Placement → Type 0
ThreeHeld stored a b c = HoldsOnceBy stored a × TwoHeld stored b c

-- Says that the storage holds the elements of four placements, each with a place of its own within its placement.
abbrev pub FourHeld : {A : Type 0} → (ℕ → Option A) → Placement → Placement → Placement → Placement → Type 0
FourHeld stored a b c d = HoldsOnceBy stored a × ThreeHeld stored b c d

-- Says that no two of three placements have a place in common.
abbrev pub ThreeApart : Placement → Placement → Placement → Type 0
ThreeApart a b c = AreApart a b × AreApart a c × AreApart b c

-- Says that no two of four placements have a place in common.
abbrev pub FourApart : Placement → Placement → Placement → Placement → Type 0
FourApart a b c d = ThreeApart b c d × AreApart a b × AreApart a c × AreApart a d

module _ {S D T A R : Type 0} {s : data_trait.Ghosts S A} {d : dimension.Ghosts D R} {n : axis_count.Ghosts D} {r : stride_list.Ghosts R} {t : stride_list.Ghosts T} where
  -- Says that the view `v` shows the elements that lie by the placement `l` in the storage, and has `l` as its layout.
  abbrev pub TakenBy : (ℕ → Option A) → Placement → ArrayBase S D T A R s d n r t → Type 0
  TakenBy stored l v = ViewsBy stored l v × (placement_of v.layout ≡ l)

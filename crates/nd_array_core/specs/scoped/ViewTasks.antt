-- Tasks on mutable views: what a task is lent, and what the array holds afterwards.
use Rattle.std.specs.Prelude.{◌≡◌, ℕ, ◌<◌, List, ℤ, false, Option, IsTrue}
use Rattle.nd_elements.specs.StorageFrame.{StorageFrame, Borrowed}
use Rattle.nd_shape_and_slice.specs.ShapesAndIndexOrders.{in_box, size_of}
use Rattle.nd_shape_and_slice.specs.PlacesAndOverlaps.{place_of, IsSeparated}
use Rattle.nd_region.specs.RegionPlaces.{names, LayoutsShareNoPlace}
use Rattle.nd_region.specs.Region.{region_stored, borrow_of}
use Rattle.nd_region.specs.declared.divided_mutable_borrow.Region.{Region}
use Rattle.nd_elements.specs.declared.storage.RegionRepr.{RegionRepr}
use Rattle.nd_array_core.specs.declared.scoped.with_view_mut.LentView.{LentView}
use Rattle.nd_elements.specs.StoragePlaces.{place_number, HoldsAll}
use Rattle.nd_array_core.specs.ArrayInStorage.{PlacedArray, element_placed}
use Rattle.nd_elements.specs.ShapeAndElements.{inside}
use Rattle.nd_elements.specs.ScopedStorageCalls.{named_part, with_named}
use Rattle.nd_layout.specs.ValidLayoutsAndSteps.{IsValid}
use Rattle.nd_layout.specs.LayoutStepsOfCalls.{Placement, placement_of}
use Rattle.nd_layout.specs.declared.layout.Layout.{Layout}
use Rattle.nd_shape_and_slice.specs.declared.dimension.Dimension as dimension
use Rattle.nd_shape_and_slice.specs.declared.dimension.AxisCount as axis_count
use Rattle.nd_shape_and_slice.specs.declared.dimension.StrideList as stride_list

-- Returns how an array with this offset, these lengths and strides lies in a storage: its shape, the place of each
-- index, and what is stored.
abbrev pub array_placed_at : {A : Type 0} → (ℕ → Option A) → ℕ → List ℕ → List ℤ → PlacedArray A
array_placed_at stored offset lengths strides = record { placed_shape = lengths; place = λ i. inside lengths i (place_number (place_of offset strides i)); stored = stored }

-- Says that an array may have this offset, these lengths and strides in the storage: the layout is valid, the storage
-- holds an element for each index, and the strides give each index a place of its own.
pub record LiesSoundly {A : Type 0} (stored : ℕ → Option A) (offset : ℕ) (lengths : List ℕ) (strides : List ℤ) : Type 0 where
  pub valid : IsValid offset lengths strides
  pub holds : HoldsAll stored offset lengths strides
  pub own_places : 0 < size_of lengths → IsSeparated lengths strides

-- Says that the map `part` has what `old` has at the places of the layout's indexes, and nothing at all others.
abbrev pub IsNamedMap : {A : Type 0} → (ℕ → Option A) → ℕ → List ℕ → List ℤ → (ℕ → Option A) → Type 0
IsNamedMap old offset lengths strides part = (p : ℕ) → part p ≡ named_part old offset lengths strides p

-- Says that `v` is a view of a whole array: it has this shape, these places, and these elements.
pub record IsViewOf {A : Type 0} (shape : List ℕ) (place : List ℕ → Option ℕ) (at : List ℕ → Option A) (v : PlacedArray A) : Type 0 where
  pub same_shape : v.placed_shape ≡ shape
  pub same_place : (i : List ℕ) → v.place i ≡ place i
  pub same_element : (i : List ℕ) → element_placed v i ≡ at i

-- Returns what the storage of a mutable view keeps while its elements change: which borrow it is of, and its places.
abbrev pub view_frame : {A : Type 0} → RegionRepr (Region A) → StorageFrame
view_frame s = Borrowed (borrow_of s.region)

-- ---- A view as it is lent: `lengths` and `strides` read its shape and its strides.
module _ {A D T : Type 0} (lengths : D → List ℕ) (strides : T → List ℤ) where
  -- Says that the lent view can be used: its storage holds an element for each index, and each index has a place of its
  -- own.
  abbrev pub CanBeSeen : LentView A D T → Type 0
  CanBeSeen l = LiesSoundly (region_stored l.region) l.offset (lengths l.dim) (strides l.strides)

  -- Returns how the lent view lies in its storage, and so what it shows.
  abbrev pub lent_view : LentView A D T → PlacedArray A
  lent_view l = array_placed_at (region_stored l.region) l.offset (lengths l.dim) (strides l.strides)

  -- Returns how the lent view lies, and so what it shows, once its elements are those of the storage `s` that is given
  -- back.
  abbrev pub view_left : LentView A D T → RegionRepr (Region A) → PlacedArray A
  view_left l s = array_placed_at (region_stored s.region) l.offset (lengths l.dim) (strides l.strides)

  -- Says that a task is done with the view: its postcondition `done` holds of the view as it was lent, of the view with
  -- the elements of the storage `s` that is given back, and of its answer.
  abbrev pub IsDoneOnView : {Q : Type 0} → (PlacedArray A → PlacedArray A → Q → Type 0) → LentView A D T → RegionRepr (Region A) → Q → Type 0
  IsDoneOnView done l s answer = done (lent_view l) (view_left l s) answer

module _ {A D T E U : Type 0} (lengths : D → List ℕ) (strides : T → List ℤ) (lengths' : E → List ℕ) (strides' : U → List ℤ) where
  -- Says that a task is done with two views: its postcondition `done` holds of both as they were lent, of both with the
  -- elements given back in `out`, and of its answer in `out`.
  abbrev pub IsDoneOnViews : {Q : Type 0} → (PlacedArray A → PlacedArray A → PlacedArray A → PlacedArray A → Q → Type 0) → LentView A D T → LentView A E U → RegionRepr (Region A) × RegionRepr (Region A) × Q → Type 0
  IsDoneOnViews done one two out = done (lent_view lengths strides one) (lent_view lengths' strides' two) (view_left lengths strides one out.0) (view_left lengths' strides' two out.1) out.2

-- Returns what the storage of a lent view keeps while its elements change: which borrow it is of, and its places.
abbrev pub lent_frame : {A D T : Type 0} → LentView A D T → StorageFrame
lent_frame l = Borrowed (borrow_of l.region)

-- ---- A view of a part of an array.
-- Says that `v` is a view of the part of this shape, each index `i` of which stands for the index `source i` of an
-- array with the given places and elements.
abbrev pub IsViewThrough : {A : Type 0} → List ℕ → (List ℕ → List ℕ) → (List ℕ → Option ℕ) → (List ℕ → Option A) → PlacedArray A → Type 0
IsViewThrough shape source place at v = IsViewOf shape (λ i. inside shape i (place (source i))) (λ i. inside shape i (at (source i))) v

-- Says that `new` has the element of `old` at each index that no index of the part stands for.
abbrev pub OthersKeep : {A : Type 0} → List ℕ → (List ℕ → List ℕ) → (List ℕ → Option A) → (List ℕ → Option A) → Type 0
OthersKeep shape source old new = (i : List ℕ) → ((j : List ℕ) → IsTrue (in_box shape j) → ¬ (source j ≡ i)) → new i ≡ old i

-- Says that `new` has the element of `old` at each index that no index of either of two parts stands for.
abbrev pub OthersKeepTwo : {A : Type 0} → List ℕ → (List ℕ → List ℕ) → List ℕ → (List ℕ → List ℕ) → (List ℕ → Option A) → (List ℕ → Option A) → Type 0
OthersKeepTwo shape source shape' source' old new = (i : List ℕ) → ((j : List ℕ) → IsTrue (in_box shape j) → ¬ (source j ≡ i)) → ((j : List ℕ) → IsTrue (in_box shape' j) → ¬ (source' j ≡ i)) → new i ≡ old i

-- Says that the maps `part` and `old` have the same at each place of the layout's indexes.
abbrev pub AgreesOnNamed : {A : Type 0} → (ℕ → Option A) → ℕ → List ℕ → List ℤ → (ℕ → Option A) → Type 0
AgreesOnNamed old offset lengths strides part = (p : ℕ) → IsTrue (names offset lengths strides p) → part p ≡ old p

-- ---- Views by a placement: an offset, lengths and strides.
module _ {A : Type 0} where
  -- Says that an array may lie by the placement `l` in what is stored: it holds an element for each index, each at a
  -- place of its own.
  abbrev pub LiesBy : (ℕ → Option A) → Placement → Type 0
  LiesBy region_stored l = LiesSoundly region_stored l.offset l.lengths l.strides

  -- Returns how an array with the placement `l` lies in what is stored.
  abbrev pub array_placed_by : (ℕ → Option A) → Placement → PlacedArray A
  array_placed_by region_stored l = array_placed_at region_stored l.offset l.lengths l.strides

  -- Says that an element is stored at the place of each index of the placement `l`.
  abbrev pub HoldsBy : (ℕ → Option A) → Placement → Type 0
  HoldsBy region_stored l = HoldsAll region_stored l.offset l.lengths l.strides

  -- Says that the precondition `asks` of a task holds of the view by the placement `l` of what is stored at the places
  -- of `l`.
  abbrev pub AsksOfPlacement : (PlacedArray A → Type 0) → (ℕ → Option A) → Placement → Type 0
  AsksOfPlacement asks region_stored l = (m : ℕ → Option A) → IsNamedMap region_stored l.offset l.lengths l.strides m → asks (array_placed_by m l)

  -- Says that the task is done: its postcondition `done` holds of the view by the placement `l` of the elements of
  -- `old` and of the view of the elements that it left, and `new` is `old` with these at the places of `l`.
  abbrev pub IsDoneOnPlacement : (PlacedArray A → PlacedArray A → Type 0) → (ℕ → Option A) → (ℕ → Option A) → Placement → Type 0
  IsDoneOnPlacement done old new l =
      (m : ℕ → Option A)
      × (n : ℕ → Option A)
      × IsNamedMap old l.offset l.lengths l.strides m
      × done (array_placed_by m l) (array_placed_by n l)
      × ((p : ℕ) → new p ≡ with_named old l.offset l.lengths l.strides n p)

  -- Says that `new` holds what `old` does at each place that no index of the placement `l` has.
  abbrev pub KeepsUnnamed : (ℕ → Option A) → (ℕ → Option A) → Placement → Type 0
  KeepsUnnamed old new l = (p : ℕ) → names l.offset l.lengths l.strides p ≡ false → new p ≡ old p

  -- Says that the precondition `asks` of a task holds of two views by the placements `one` and `two`, whatever storages
  -- they lie in that hold the same at their places.
  abbrev pub AsksOfPair : (PlacedArray A → PlacedArray A → Type 0) → (ℕ → Option A) → Placement → Placement → Type 0
  AsksOfPair asks stored one two =
      (m n : ℕ → Option A) → AgreesOnNamed stored one.offset one.lengths one.strides m → AgreesOnNamed stored two.offset two.lengths two.strides n → asks (array_placed_by m one) (array_placed_by n two)

  -- Says that the task is done: its postcondition `done` holds of views by the placements `one` and `two` of the
  -- elements of `old`, and of views of the elements of `new`.
  abbrev pub IsDoneOnPair : (PlacedArray A → PlacedArray A → PlacedArray A → PlacedArray A → Type 0) → (ℕ → Option A) → (ℕ → Option A) → Placement → Placement → Type 0
  IsDoneOnPair done old new one two =
      (m : ℕ → Option A)
      × (n : ℕ → Option A)
      × (s : ℕ → Option A)
      × (t : ℕ → Option A)
      × AgreesOnNamed old one.offset one.lengths one.strides m
      × AgreesOnNamed old two.offset two.lengths two.strides n
      × done (array_placed_by m one) (array_placed_by n two) (array_placed_by s one) (array_placed_by t two)
      × AgreesOnNamed new one.offset one.lengths one.strides s
      × AgreesOnNamed new two.offset two.lengths two.strides t

  -- Says that `new` holds what `old` does at each place that no index of either placement has.
  abbrev pub KeepsUnnamedByTwo : (ℕ → Option A) → (ℕ → Option A) → Placement → Placement → Type 0
  KeepsUnnamedByTwo old new one two =
      (p : ℕ) → names one.offset one.lengths one.strides p ≡ false → names two.offset two.lengths two.strides p ≡ false → new p ≡ old p

-- Says that two placements have no place in common.
abbrev pub AreApart : Placement → Placement → Type 0
AreApart one two = LayoutsShareNoPlace one.offset one.lengths one.strides two.offset two.lengths two.strides

-- Says that the placement `whole` has each place that the placement `part` has.
abbrev pub IsWithin : Placement → Placement → Type 0
IsWithin part whole = (p : ℕ) → IsTrue (names part.offset part.lengths part.strides p) → IsTrue (names whole.offset whole.lengths whole.strides p)

-- ---- Tasks on what regions show under layouts, which give the regions back and return an answer.
module _ {A D T R : Type 0} {d : dimension.Ghosts D R} {n : axis_count.Ghosts D} {r : stride_list.Ghosts R} {t : stride_list.Ghosts T} where
  -- Returns how the region lies, and so what it shows, under the layout `l`.
  abbrev pub shown_under : Region A → Layout D T R d n r t → PlacedArray A
  shown_under region l = array_placed_by (region_stored region) (placement_of l)

  -- Says that the task is done: its postcondition `done` holds of the region `old` under the layout `l`, of the region
  -- given back in `out`, and of its answer in `out`.
  abbrev pub IsDoneUnder : {B : Type 0} → (PlacedArray A → PlacedArray A → B → Type 0) → Layout D T R d n r t → Region A → Region A × B → Type 0
  IsDoneUnder done l old out = done (shown_under old l) (shown_under out.0 l) out.1

  -- Says that the task is done in a part of a storage: its postcondition `done` holds of the view by the layout `l` of
  -- `old` and of the view that it left, and of its answer, and `new` differs from `old` at the places of `l` alone.
  abbrev pub IsDoneInPart : {S B : Type 0} → (PlacedArray A → PlacedArray A → B → Type 0) → (S → ℕ → Option A) → S → S → Layout D T R d n r t → B → Type 0
  IsDoneInPart done stored old new l answer = IsDoneOnPlacement (λ v w. done v w answer) (stored old) (stored new) (placement_of l)

  module _ {E U X : Type 0} {e : dimension.Ghosts E X} {k : axis_count.Ghosts E} {x : stride_list.Ghosts X} {u : stride_list.Ghosts U} where
    -- Says that the task is done with two regions: its postcondition `done` holds of `part` under the layout `one` and
    -- of `rest` under the layout `two`, of both as they are given back in `out`, and of its answer in `out`.
    abbrev pub IsDoneUnderBoth : {B : Type 0} → (PlacedArray A → PlacedArray A → PlacedArray A → PlacedArray A → B → Type 0) → Layout D T R d n r t → Layout E U X e k x u → Region A → Region A → Region A × Region A × B → Type 0
    IsDoneUnderBoth done one two part rest out = done (shown_under part one) (array_placed_by (region_stored rest) (placement_of two)) (shown_under out.0 one) (array_placed_by (region_stored out.1) (placement_of two)) out.2

    -- Says that the task is done with two views of one region: its postcondition `done` holds of the views by the
    -- layouts `one` and `two` of `old`, of those of the region in `out`, and of its answer in `out`.
    abbrev pub IsDoneOnTwo : {B : Type 0} → (PlacedArray A → PlacedArray A → PlacedArray A → PlacedArray A → B → Type 0) → Layout D T R d n r t → Layout E U X e k x u → Region A → Region A × B → Type 0
    IsDoneOnTwo done one two old out = IsDoneOnPair (λ v0 v1 w0 w1. done v0 v1 w0 w1 out.1) (region_stored old) (region_stored out.0) (placement_of one) (placement_of two)

    -- Says that the task is done with two views of one storage: its postcondition `done` holds of the views by the
    -- layouts `one` and `two` of `old`, of those of `new`, and of its answer.
    abbrev pub IsDoneInParts : {S B : Type 0} → (PlacedArray A → PlacedArray A → PlacedArray A → PlacedArray A → B → Type 0) → (S → ℕ → Option A) → S → S → Layout D T R d n r t → Layout E U X e k x u → B → Type 0
    IsDoneInParts done stored old new one two answer = IsDoneOnPair (λ v0 v1 w0 w1. done v0 v1 w0 w1 answer) (stored old) (stored new) (placement_of one) (placement_of two)

    -- Says that the region `new` holds what `old` does at each place that no index of either layout has.
    abbrev pub KeepsOutsideTwo : Region A → Region A → Layout D T R d n r t → Layout E U X e k x u → Type 0
    KeepsOutsideTwo old new one two = KeepsUnnamedByTwo (region_stored old) (region_stored new) (placement_of one) (placement_of two)

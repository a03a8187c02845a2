-- What a storage holds at the places of a layout's indexes.
use Rattle.std.specs.Prelude.{◌≡◌, ℕ, Bool, List, Option}
use Rattle.std.specs.Borrow.{Bor, MutBor}
use Rattle.std.specs.Cmp.Lexicographic.{pointwise}
use Rattle.std.specs.Fn.{Mut}
use Rattle.std.specs.List.{filter_map}
use Rattle.nd_shape_and_slice.specs.ShapesAndIndexOrders.{indexes_of}
use Rattle.nd_shape_and_slice.specs.PlacesAndOverlaps.{place_of}
use Rattle.nd_shape_and_slice.specs.declared.dimension.Dimension as dimension
use Rattle.nd_shape_and_slice.specs.declared.dimension.AxisCount as axis_count
use Rattle.nd_shape_and_slice.specs.declared.dimension.StrideList as stride_list
use Rattle.nd_layout.specs.LayoutStepsOfCalls.{Placement, placement_of}
use Rattle.nd_layout.specs.declared.layout.Layout.{Layout}
use Rattle.nd_elements.specs.LackOfMemory.{MayLackForClone}
use Rattle.nd_elements.specs.ShapeAndElements.{inside}
use Rattle.nd_region.specs.RegionPlaces.{names, names_not}
use Rattle.nd_elements.specs.StoragePlaces.{place_number, stored_at, kept_at, HoldsAll}
use Rattle.nd_elements.specs.WritesByIndex.{OthersStay}
use Rattle.nd_elements.specs.CallsInFreeOrder.{VisitedInSomeOrder}
use Rattle.nd_elements.specs.elements.PairsWithOneWritten.{ChangesWith, IsOldOrOf, ZipsAll, ZippableInAnyOrder}

-- Returns the element that `stored` has at the place of the index `i`, and `None` where `i` lies outside the shape.
abbrev pub shown_at : {A : Type 0} → (ℕ → Option A) → Placement → List ℕ → Option A
shown_at stored p i = inside p.lengths i (stored_at stored (place_of p.offset p.strides i))

-- Returns the place of the index `i`, and `None` where `i` lies outside the shape or the place would be negative.
abbrev pub place_named : Placement → List ℕ → Option ℕ
place_named p i = inside p.lengths i (place_number (place_of p.offset p.strides i))

-- Says that `stored` has an element at the place of each index of `p`.
abbrev pub HoldsEach : {A : Type 0} → (ℕ → Option A) → Placement → Type 0
HoldsEach stored p = HoldsAll stored p.offset p.lengths p.strides

-- Says that `new` has what `old` has at the places that an index of `p` names, and nothing elsewhere.
abbrev pub HasNamed : {A : Type 0} → Placement → (ℕ → Option A) → (ℕ → Option A) → Type 0
HasNamed p old new = (place : ℕ) → new place ≡ kept_at (names p.offset p.lengths p.strides) old place

-- Says that `new` has what `old` has at the places that no index of `p` names, and nothing elsewhere.
abbrev pub HasUnnamed : {A : Type 0} → Placement → (ℕ → Option A) → (ℕ → Option A) → Type 0
HasUnnamed p old new = (place : ℕ) → new place ≡ kept_at (names_not p.offset p.lengths p.strides) old place

-- Says that every place that no index of `p` names has in `new` what it has in `old`.
abbrev pub StaysOutside : {A : Type 0} → Placement → (ℕ → Option A) → (ℕ → Option A) → Type 0
StaysOutside p old new = OthersStay (place_named p) old new

-- Storages with a layout, where `stored` tells what a storage holds at each place.
module _ {S A D T R : Type 0} {d : dimension.Ghosts D R} {n : axis_count.Ghosts D} {r : stride_list.Ghosts R} {t : stride_list.Ghosts T} (stored : S → ℕ → Option A) where
  -- Returns the element that the storage `s` holds at an index of `l`, and `None` where the index lies outside the
  -- shape.
  abbrev pub shown : S → Layout D T R d n r t → List ℕ → Option A
  shown s l = shown_at (stored s) (placement_of l)

  -- Returns the elements that the storage `s` holds at the indexes of `l`, in row-major order.
  abbrev pub listed_by : S → Layout D T R d n r t → List A
  listed_by s l = filter_map (shown s l) (indexes_of (d.lengths l.dim))

  -- Says that the storage `s` holds an element at the place of each index of `l`.
  abbrev pub HoldsShown : S → Layout D T R d n r t → Type 0
  HoldsShown s l = HoldsEach (stored s) (placement_of l)

  -- Says that every place that no index of `l` names holds in `new` what it holds in `old`.
  abbrev pub LeavesOthers : Layout D T R d n r t → S → S → Type 0
  LeavesOthers l old new = StaysOutside (placement_of l) (stored old) (stored new)

  -- Says that `new` holds what `old` holds at the places that an index of `l` names, and nothing elsewhere.
  abbrev pub ShowsNamed : Layout D T R d n r t → S → S → Type 0
  ShowsNamed l old new = HasNamed (placement_of l) (stored old) (stored new)

  -- Says that `new` holds what `old` holds at the places that no index of `l` names, and nothing elsewhere.
  abbrev pub ShowsUnnamed : Layout D T R d n r t → S → S → Type 0
  ShowsUnnamed l old new = HasUnnamed (placement_of l) (stored old) (stored new)

  -- Says that the elements of `a` at the indexes of `ours` and those of `b` at the indexes of `theirs`, each in
  -- row-major order, are equal by `eq`.
  abbrev pub equal_shown : (A → A → Bool) → S → Layout D T R d n r t → S → Layout D T R d n r t → Bool
  equal_shown eq a ours b theirs = pointwise eq (listed_by a ours) (listed_by b theirs)

  -- Says that of some element that the storage `s` holds at an index of `l` a clone may be refused.
  abbrev pub MayLackShown : (A → Type 0) → S → Layout D T R d n r t → Type 0
  MayLackShown is_infallible s l = MayLackForClone is_infallible (shown s l)

  -- A second storage `others` has the layout `other_layout`, and `others_stored` tells what it holds at each place.
  module _ {Z : Type 0} (others_stored : Z → ℕ → Option A) where
    -- Says that each index has in `new` the element that it has in `others`.
    abbrev pub ShowsSame : S → Layout D T R d n r t → Z → Layout D T R d n r t → Type 0
    ShowsSame new l others other_layout = (i : List ℕ) → shown new l i ≡ shown_at (others_stored others) (placement_of other_layout) i

    -- Says that each index has in `new` the element that it has in `old`, or the one that it has in `others`.
    abbrev pub ShowsOldOr : S → S → Layout D T R d n r t → Z → Layout D T R d n r t → Type 0
    ShowsOldOr old new l others other_layout = IsOldOrOf (shown old l) (shown_at (others_stored others) (placement_of other_layout)) (shown new l)

-- Closures that are handed, for each index, the element of `s` to be written and the element of `others`, in an order
-- that is free.
module _ {S Z F A B D T R : Type 0} {d : dimension.Ghosts D R} {n : axis_count.Ghosts D} {r : stride_list.Ghosts R} {t : stride_list.Ghosts T} (g : Mut F (MutBor A × (Bor B × Unit {0})) (Unit {0} × (MutBor A × Unit {0}))) (stored : S → ℕ → Option A) (others_stored : Z → ℕ → Option B) (s : S) (l : Layout D T R d n r t) (others : Z) (other_layout : Layout D T R d n r t) where
  -- Says that whichever indexes were visited from the closure `f` on, it may be called for each index that is left.
  abbrev pub TakesShown : F → Type 0
  TakesShown f = ZippableInAnyOrder g (d.lengths l.dim) (shown stored s l) (shown others_stored others other_layout) f

  -- Says that one call for each index, in some order from the closure `f` on, changed the elements of `s` to those of
  -- `new`.
  abbrev pub ZipsShown : S → F → Type 0
  ZipsShown new f = ZipsAll g (d.lengths l.dim) (shown stored s l) (shown others_stored others other_layout) (shown stored new l) f

  -- Says that one call for each index, in some order, changed the elements of `s` to those of `new`, and led from the
  -- closure `first` to `last`.
  abbrev pub ZipsTo : S → F → F → Type 0
  ZipsTo new first last = VisitedInSomeOrder (d.lengths l.dim) (λ p i q. ChangesWith g (shown others_stored others other_layout i) (shown stored s l i) (shown stored new l i) p q) first last

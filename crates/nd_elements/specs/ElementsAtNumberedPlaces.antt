-- What a storage holds at numbered places, those of a lane or of a layout.
use Rattle.std.specs.Prelude.{◌≡◌, ◌+◌, ◌<◌, ◌++◌, ℕ, Bool, List, length, pos, Option, Some, IsTrue}
use Rattle.std.specs.Cmp.Lexicographic.{pointwise}
use Rattle.std.specs.declared.vec.Vec.{Vec}
use Rattle.nd_shape_and_slice.specs.declared.dimension.Dimension as dimension
use Rattle.nd_shape_and_slice.specs.declared.dimension.AxisCount as axis_count
use Rattle.nd_shape_and_slice.specs.declared.dimension.StrideList as stride_list
use Rattle.nd_layout.specs.NumberedPlacesAndWalks.{Numbered, along, by_rank, ranked}
use Rattle.nd_layout.specs.LayoutStepsOfCalls.{placement_of}
use Rattle.nd_layout.specs.declared.walk.lane.Lane.{Lane}
use Rattle.nd_layout.specs.declared.layout.Layout.{Layout}
use Rattle.nd_layout.specs.declared.walk.layout_as_lanes.Places.{Places}
use Rattle.nd_elements.specs.LackOfMemory.{MayLackBelow}
use Rattle.nd_elements.specs.EqualClones.{ClonesAreEqual}
use Rattle.nd_elements.specs.CollectedElements.{collected}
use Rattle.nd_elements.specs.StoragePlaces.{stored_at, names_place}
use Rattle.nd_elements.specs.elements.ElementChanges.{AreDistinct}

-- The numbered places of a list: each item lies at its index, where `slice_get` finds it.
abbrev pub in_turn : {A : Type 0} → List A → Numbered
in_turn xs = record { count = length xs; place = λ k. pos k }

-- The numbered places of a layout, by the row-major ranks of its indexes.
abbrev pub ranked_by : {D T R : Type 0} {d : dimension.Ghosts D R} {n : axis_count.Ghosts D} {r : stride_list.Ghosts R} {t : stride_list.Ghosts T} → Layout D T R d n r t → Numbered
ranked_by l = by_rank (placement_of l)

-- Says that no two numbers have the same place.
abbrev pub PlacesDiffer : Numbered → Type 0
PlacesDiffer at = AreDistinct at.place at.count

module _ {S A : Type 0} (stored : S → ℕ → Option A) (at : Numbered) where
  -- Says that the storage `s` holds an element at each of the numbered places.
  abbrev pub Holds : S → Type 0
  Holds s = (k : ℕ) → k < at.count → IsTrue (names_place (stored s) (at.place k))

  -- Returns the element that the storage `s` holds at the place of a number.
  abbrev pub elements_at : S → ℕ → Option A
  elements_at s = λ k. stored_at (stored s) (at.place k)

  -- Returns the elements that the storage `s` holds at the places of `count` numbers from `from` on, in their order.
  abbrev pub elements_from : ℕ → ℕ → S → List A
  elements_from from count s = collected (λ k. elements_at s (from + k)) count

  -- Returns the elements that the storage `s` holds at all numbered places, in the order of the numbers.
  abbrev pub all_elements_at : S → List A
  all_elements_at s = collected (elements_at s) at.count

  -- Says that the vector `new` has the items of `old`, and after them the elements of `s` at all numbered places.
  abbrev pub ListsAfter : {Z : Type 0} → S → Vec A Z → Vec A Z → Type 0
  ListsAfter s old new = new.items ≡ old.items ++ all_elements_at s

-- Every clone of an element that the storage `s` holds at a numbered place equals that element.
abbrev pub ClonesAreEqualAt : {S A : Type 0} → (A → A → Type 0) → (S → ℕ → Option A) → Numbered → S → Type 0
ClonesAreEqualAt {A = A} is_clone stored at s = (k : ℕ) (x : A) → k < at.count → elements_at stored at s k ≡ Some x → ClonesAreEqual is_clone x

-- Says that of some element that the storage `s` holds at a numbered place a clone may be refused.
abbrev pub MayLackAt : {S A : Type 0} → (A → Type 0) → (S → ℕ → Option A) → Numbered → S → Type 0
MayLackAt is_infallible stored at s = MayLackBelow is_infallible (elements_at stored at s) at.count

-- Says that of some element that the storage `s` holds at a place of the layout a clone may be refused.
abbrev pub MayLackMemory : {S A : Type 0} → (A → Type 0) → (S → ℕ → Option A) → Places → S → Type 0
MayLackMemory is_infallible stored places s = MayLackAt is_infallible stored (ranked places) s

-- The elements that a storage holds at the places of a layout `l`.
module _ {S A D T R : Type 0} {d : dimension.Ghosts D R} {n : axis_count.Ghosts D} {r : stride_list.Ghosts R} {t : stride_list.Ghosts T} where
  -- Says that the vector `new` has the items of `old`, and after them the elements of `s` at the places of `l`, in
  -- row-major order.
  abbrev pub ListsShown : {Z : Type 0} → (S → ℕ → Option A) → Layout D T R d n r t → S → Vec A Z → Vec A Z → Type 0
  ListsShown stored l s old new = ListsAfter stored (ranked_by l) s old new

  -- Says that of some element that `s` holds at a place of `l` a clone may be refused.
  abbrev pub MayLackBy : (A → Type 0) → (S → ℕ → Option A) → Layout D T R d n r t → S → Type 0
  MayLackBy is_infallible stored l s = MayLackAt is_infallible stored (ranked_by l) s

-- The elements along two lanes compared one by one.
module _ {S A : Type 0} (eq : A → A → Bool) (stored : S → ℕ → Option A) where
  -- Says that the `count` elements from number `from` on along `ours` in `a` and along `theirs` in `b` are equal by
  -- `eq`.
  abbrev pub equal_from : ℕ → ℕ → S → Lane → S → Lane → Bool
  equal_from from count a ours b theirs = pointwise eq (elements_from stored (along ours) from count a) (elements_from stored (along theirs) from count b)

  -- Says that the elements along `ours` in `a` are equal by `eq` to as many elements along `theirs` in `b`.
  abbrev pub equal_along : S → Lane → S → Lane → Bool
  equal_along a ours b theirs = pointwise eq (collected (elements_at stored (along ours) a) ours.count) (collected (elements_at stored (along theirs) b) ours.count)

-- Tasks on the part of an array that a path leads to, and on the two halves of a split, by shapes and elements alone.
use Rattle.std.specs.Prelude.{◌≡◌, ℕ, ℤ, List, Option, None, Some, Result, Ok, Err}
use Rattle.nd_shape_and_slice.specs.LayoutIndexMaps.{lower_shape, upper_shape, upper_index}
use Rattle.nd_shape_and_slice.specs.declared.dimension.Dimension as dimension
use Rattle.nd_shape_and_slice.specs.declared.dimension.AxisCount as axis_count
use Rattle.nd_shape_and_slice.specs.declared.dimension.StrideList as stride_list
use Rattle.nd_elements.specs.declared.storage.Data as data_trait
use Rattle.nd_array_core.specs.declared.base.array.ArrayBase.{ArrayBase}
use Rattle.nd_array_core.specs.ArrayMeaning.{Meaning, inside, meaning_through, shape_of, storage_of, place_at}
use Rattle.nd_array_core.specs.ArrayInStorage.{PlacedArray, element_placed, left_at}
use Rattle.nd_array_core.specs.scoped.ViewTasks.{OthersKeep, lent_view, view_left}
use Rattle.nd_array_core.specs.declared.scoped.with_view_mut.LentView.{LentView}
use Rattle.nd_region.specs.declared.divided_mutable_borrow.Region.{Region}
use Rattle.nd_elements.specs.declared.storage.RegionRepr.{RegionRepr}

-- A path, which leads to a part of an array: the error with which it refuses an array of given lengths, if it does, the
-- lengths of the part, and the index of the array that an index of the part stands for.
pub record PathMap (E : Type 0) : Type 0 where
  pub cause_against : List ℕ → Option E
  pub part_lengths : List ℕ → List ℕ
  pub array_index : List ℕ → List ℕ → List ℕ

-- Returns the shape and the elements of the part of `m` to which the path `p` leads.
abbrev pub seen_along : {A E : Type 0} → PathMap E → Meaning A → Meaning A
seen_along p m = meaning_through (p.part_lengths m.shape) (p.array_index m.shape) m

-- Says that the precondition `asks` of a task holds of the part of `m` to which the path leads, unless the path is
-- refused.
abbrev pub AsksAlong : {A E : Type 0} → PathMap E → (Meaning A → Type 0) → Meaning A → Type 0
AsksAlong p asks m = p.cause_against m.shape ≡ None → asks (seen_along p m)

-- Says that the task is done on the part, and that each index of the array that no index of the part stands for keeps
-- its element; or that the path is refused with the error, and nothing has changed.
abbrev pub IsDoneAlong : {A E Q : Type 0} → PathMap E → (Meaning A → Meaning A → Q → Type 0) → Meaning A → Meaning A → Result Q E → Type 0
IsDoneAlong p done old new (Ok answer) = (p.cause_against old.shape ≡ None) × done (seen_along p old) (seen_along p new) answer × OthersKeep (p.part_lengths old.shape) (p.array_index old.shape) old.at new.at
IsDoneAlong p done old new (Err cause) = (p.cause_against old.shape ≡ Some cause) × (new ≡ old)

-- Returns what lies at the coordinates of `axis` below `k`.
abbrev pub seen_below : {A : Type 0} → ℕ → ℕ → Meaning A → Meaning A
seen_below axis k m = meaning_through (lower_shape m.shape axis k) (λ i. i) m

-- Returns what lies at the coordinates of `axis` from `k` on.
abbrev pub seen_from : {A : Type 0} → ℕ → ℕ → Meaning A → Meaning A
seen_from axis k m = meaning_through (upper_shape m.shape axis k) (upper_index axis k) m

-- Says that the precondition `asks` of a task holds of the two parts of `m` at the coordinates of `axis` below `k` and
-- from `k` on.
abbrev pub AsksOfTwo : {A : Type 0} → ℕ → ℕ → (Meaning A → Meaning A → Type 0) → Meaning A → Type 0
AsksOfTwo axis k asks m = asks (seen_below axis k m) (seen_from axis k m)

-- Says that the task is done: its postcondition `done` holds of the two parts at the coordinates of `axis` below `k`
-- and from `k` on, first of `old` and then of `new`, and of its answer.
abbrev pub IsDoneWithTwo : {A Q : Type 0} → ℕ → ℕ → (Meaning A → Meaning A → Meaning A → Meaning A → Q → Type 0) → Meaning A → Meaning A → Q → Type 0
IsDoneWithTwo axis k done old new answer = done (seen_below axis k old) (seen_from axis k old) (seen_below axis k new) (seen_from axis k new) answer

-- ---- Arrays as they lie in a storage.
-- Returns the shape and the elements of an array that lies as `v` says.
abbrev pub meaning_placed : {A : Type 0} → PlacedArray A → Meaning A
meaning_placed v = record { shape = v.placed_shape; at = element_placed v }

-- Returns the shape and the elements of an array that lies as `v` says, once its storage holds what that of `w` does.
abbrev pub meaning_left : {A : Type 0} → PlacedArray A → PlacedArray A → Meaning A
meaning_left v w = record { shape = v.placed_shape; at = left_at v w }

-- Says that the task is done along the path `p` on an array that lies as `v` says, and leaves the storage of `w`.
abbrev pub IsDoneAlongPlaced : {A E Q : Type 0} → PathMap E → (Meaning A → Meaning A → Q → Type 0) → PlacedArray A → PlacedArray A → Result Q E → Type 0
IsDoneAlongPlaced p done v w answer = IsDoneAlong p done (meaning_placed v) (meaning_left v w) answer

-- Returns the place of each index of an array that lies as `v` says.
abbrev pub places_in : {A : Type 0} → PlacedArray A → Meaning ℕ
places_in v = record { shape = v.placed_shape; at = v.place }

-- ---- A view as it is lent: `lengths` and `strides` read its shape and its strides.
module _ {A D T : Type 0} (lengths : D → List ℕ) (strides : T → List ℤ) where
  -- Returns the shape and the elements of the lent view.
  abbrev pub lent_meaning : LentView A D T → Meaning A
  lent_meaning l = meaning_placed (lent_view lengths strides l)

  -- Returns the shape and the elements of the lent view once its elements are those of the storage `s` that is given
  -- back.
  abbrev pub given_back : LentView A D T → RegionRepr (Region A) → Meaning A
  given_back l s = meaning_left (lent_view lengths strides l) (view_left lengths strides l s)

  -- Says that the task is done along the path `p` on the lent view, which `out` gives back together with the answer.
  abbrev pub IsDoneAlongView : {E Q : Type 0} → PathMap E → (Meaning A → Meaning A → Q → Type 0) → LentView A D T → RegionRepr (Region A) × Result Q E → Type 0
  IsDoneAlongView p done l out = IsDoneAlong p done (lent_meaning l) (given_back l out.0) out.1

  -- Says that the precondition `asks` of a task holds of the shapes and elements of two lent views.
  abbrev pub AsksOfViews : (Meaning A → Meaning A → Type 0) → LentView A D T → LentView A D T → Type 0
  AsksOfViews asks one two = asks (lent_meaning one) (lent_meaning two)

  -- Says that the task is done: its postcondition `done` holds of two lent views, of both as they are given back in
  -- `out`, and of its answer in `out`.
  abbrev pub IsDoneWithViews : {Q : Type 0} → (Meaning A → Meaning A → Meaning A → Meaning A → Q → Type 0) → LentView A D T → LentView A D T → RegionRepr (Region A) × RegionRepr (Region A) × Q → Type 0
  IsDoneWithViews done one two out = done (lent_meaning one) (lent_meaning two) (given_back one out.0) (given_back two out.1) out.2

module _ {S D A T R : Type 0} {s : data_trait.Ghosts S A} {d : dimension.Ghosts D R} {n : axis_count.Ghosts D} {r : stride_list.Ghosts R} {t : stride_list.Ghosts T} where
  -- Says that `b` has the storage of `a`.
  abbrev pub LiesWith : ArrayBase S D T A R s d n r t → ArrayBase S D T A R s d n r t → Type 0
  LiesWith a b = storage_of b ≡ storage_of a

  -- Says that each index `i` of `b` has the place of the index `source i` of `a`.
  abbrev pub LiesThrough : ArrayBase S D T A R s d n r t → (List ℕ → List ℕ) → ArrayBase S D T A R s d n r t → Type 0
  LiesThrough a source b = (i : List ℕ) → place_at b i ≡ inside (shape_of b) i (place_at a (source i))

  -- Says that `b` has the shape and the places of the part of `a` to which the path `p` leads.
  abbrev pub EndsAlong : {E : Type 0} → PathMap E → ArrayBase S D T A R s d n r t → ArrayBase S D T A R s d n r t → Type 0
  EndsAlong p a b = (shape_of b ≡ p.part_lengths (shape_of a)) × LiesThrough a (p.array_index (shape_of a)) b

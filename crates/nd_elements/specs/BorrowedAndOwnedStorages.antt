-- What borrowed storages hold at a place, and what an owned one holds and has room for.
use Rattle.std.specs.Prelude.{◌≡◌, ℕ, List, Option, slice_get, vec_capacity}
use Rattle.nd_region.specs.Region.{region_stored}
use Rattle.nd_region.specs.SharedRegion.{shared_stored}
use Rattle.nd_region.specs.declared.divided_mutable_borrow.Region.{Region}
use Rattle.nd_elements.specs.declared.storage.OwnedRepr.{OwnedRepr}
use Rattle.nd_elements.specs.declared.storage.RegionRepr.{RegionRepr}
use Rattle.nd_elements.specs.declared.storage.ViewRepr.{ViewRepr}

-- Returns what a storage that can be read holds at a place.
abbrev pub shown_by : {A : Type 0} → ViewRepr A → ℕ → Option A
shown_by s = shared_stored s.region

-- Says that the storage holds each item of `xs` at the place with its index, and nothing past the end of `xs`.
abbrev pub ShowsItems : {A : Type 0} → ViewRepr A → List A → Type 0
ShowsItems s xs = (place : ℕ) → shown_by s place ≡ slice_get xs place

-- Returns what a storage that can be read and written holds at a place.
abbrev pub held_by : {A : Type 0} → RegionRepr (Region A) → ℕ → Option A
held_by s = region_stored s.region

-- Returns the owned elements in the order in which they lie, including those that no index names.
abbrev pub stored_list : {A : Type 0} → OwnedRepr A → List A
stored_list s = s.items.items

-- Returns the capacity: how many elements the storage can have without more memory.
abbrev pub room_of : {A : Type 0} → OwnedRepr A → ℕ
room_of s = vec_capacity s.items

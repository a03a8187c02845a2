-- What contracts say of a shared region.
use Rattle.std.specs.Prelude.{◌≡◌, ℕ, ◌+◌, ◌<◌, List, true, Option, Some, length, replicate, slice_index_or, IsTrue}
use Rattle.std.specs.Option.{is_some}
use Rattle.nd_region.specs.RegionPlaces.{stored_in}
use Rattle.nd_region.specs.Region.{region_stored}
use Rattle.nd_region.specs.declared.shared_borrow.SharedRegion.{SharedRegion}
use Rattle.nd_region.specs.declared.shared_borrow.SharedRegion.TheVariants.{Part, Whole}

module _ {A : Type 0} where
  -- Returns the element of `xs` at an index, and `None` past the end.
  abbrev pub slice_stored : List A → ℕ → Option A
  slice_stored xs = stored_in xs (replicate (length xs) true)

  -- Returns the element that the shared region has at a place, and `None` at every number that isn't one of its places.
  abbrev pub shared_stored : SharedRegion A → ℕ → Option A
  shared_stored (Part r) = region_stored r.now
  shared_stored (Whole s) = slice_stored s.now

  -- Says that `r` has an element at each of the `n` places from `p` on.
  abbrev pub HasSharedRun : SharedRegion A → ℕ → ℕ → Type 0
  HasSharedRun r p n = (k : ℕ) → k < n → IsTrue (is_some (shared_stored r (p + k)))

  -- Says that `r` has the elements `xs` at the `n` places from `p` on.
  abbrev pub IsSharedRunOf : SharedRegion A → ℕ → ℕ → List A → Type 0
  IsSharedRunOf r p n xs = (length xs ≡ n) × ((k : ℕ) (d : A) → k < n → shared_stored r (p + k) ≡ Some (slice_index_or xs k d))

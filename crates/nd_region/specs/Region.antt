-- What contracts say of a region.
use Rattle.std.specs.Prelude.{◌≡◌, ℕ, ◌+◌, ◌<◌, slice_index_or, ℤ, List, Bool, true, Option, Some, None, if◌then◌else◌, length, replicate, slice_set, IsTrue}
use Rattle.nd_shape_and_slice.specs.ShapesAndIndexOrders.{in_box}
use Rattle.nd_shape_and_slice.specs.PlacesAndOverlaps.{place_of}
use Rattle.nd_region.specs.RegionPlaces.{stored_in, overwritten_items, run_written, merged_rows, has_place, kept_where}
use Rattle.std.specs.Option.{is_some}
use base.Fml.{GName}
use Rattle.std.specs.List.{swap}
use Rattle.nd_region.specs.declared.divided_mutable_borrow.Region.{Region}

module _ {A : Type 0} where
  -- Returns the element that the region `r` has at a place, and `None` at every number that isn't one of its places.
  abbrev pub region_stored : Region A → ℕ → Option A
  region_stored r = stored_in r.items r.held

  -- Returns `stored` if it is asked for, and else `None`.
  abbrev pub stored_if : Bool → Option A → Option A
  stored_if asked stored = if asked then stored else None

  -- Returns the list of elements that `r` is a region of: those at its places, and what is known of the others.
  abbrev pub elements_of : Region A → List A
  elements_of r = r.items

  -- Says that `r` is the region of the elements `xs` with all places.
  abbrev pub IsWhole : Region A → List A → Type 0
  IsWhole r xs = (r.items ≡ xs) × (r.held ≡ replicate (length xs) true)

  -- Says that `r` and `s` are regions of the same borrow.
  abbrev pub IsSameBorrow : Region A → Region A → Type 0
  IsSameBorrow r s = s.name ≡ r.name

  -- Returns which borrow `r` is a region of, and which places it has. Both stay while its elements change.
  abbrev pub borrow_of : Region A → GName × List Bool
  borrow_of r = (r.name, r.held)

  -- Says that `r` and `s` have the same places, and the same list of elements.
  abbrev pub IsSameMap : Region A → Region A → Type 0
  IsSameMap r s = (s.items ≡ r.items) × (s.held ≡ r.held)

  -- Returns the region `r` with `xs` as its list of elements.
  abbrev pub with_items : Region A → List A → Region A
  with_items r xs = record { ptr = r.ptr; len = r.len; mark = r.mark; name = r.name; items = xs; held = r.held; small = r.small }

  -- Returns the region `r` with the elements at the places `p` and `q` exchanged.
  abbrev pub with_swapped : Region A → ℕ → ℕ → Region A
  with_swapped r p q = with_items r (swap r.items p q)

  -- Returns the region `r` with `x` at the place `p`.
  abbrev pub with_element : Region A → ℕ → A → Region A
  with_element r p x = with_items r (slice_set r.items p x)

  -- Says that `r` has an element at the place of each index of the layout.
  abbrev pub HasPlaces : Region A → ℕ → List ℕ → List ℤ → Type 0
  HasPlaces r offset ns ss = (i : List ℕ) → IsTrue (in_box ns i) → IsTrue (has_place (region_stored r) (place_of offset ss i))

  -- Says that `r` is the part of `s` at the places that pass `g`. Each place keeps the number that it has in `s`.
  abbrev pub IsPartWhere : (ℕ → Bool) → Region A → Region A → Type 0
  IsPartWhere g s r = (r.items ≡ s.items) × (r.held ≡ kept_where g s.held)

  -- Says that the lists of elements of `r` and `s` have the same length.
  abbrev pub IsAsLong : Region A → Region A → Type 0
  IsAsLong r s = length (elements_of s) ≡ length (elements_of r)

  -- Returns `s` with the elements of `x` at the places of `p`, and with those of `y` elsewhere.
  abbrev pub rejoined_region : Region A → Region A → Region A → Region A → Region A
  rejoined_region s p x y = with_items s (merged_rows p.held x.items y.items)

  -- Says that `out` is `r` and `s` with the element at the place `p` of `r` and that at the place `q` of `s` exchanged.
  abbrev pub SwappedBetween : Region A → ℕ → Region A → ℕ → Region A × Region A × Unit {0} → Type 0
  SwappedBetween r p s q out = (x : A) × (y : A) × (region_stored r p ≡ Some x) × (region_stored s q ≡ Some y) × (out.0 ≡ with_element r p y) × (out.1 ≡ with_element s q x)

  -- Says that `r` has an element at each of the `n` places from `p` on.
  abbrev pub HasRun : Region A → ℕ → ℕ → Type 0
  HasRun r p n = (k : ℕ) → k < n → IsTrue (is_some (region_stored r (p + k)))

  -- Says that `r` has the elements `xs` at the `n` places from `p` on.
  abbrev pub IsRunOf : Region A → ℕ → ℕ → List A → Type 0
  IsRunOf r p n xs = (length xs ≡ n) × ((k : ℕ) (d : A) → k < n → region_stored r (p + k) ≡ Some (slice_index_or xs k d))

  -- Returns the region `r` with `ws` at the `n` places from `p` on. Its list of elements stays as long as it was.
  abbrev pub with_run : Region A → ℕ → ℕ → List A → Region A
  with_run r p n ws = with_items r (overwritten_items r.items (run_written r.items p n ws))

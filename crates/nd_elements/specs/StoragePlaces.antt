-- Places of a storage.
use Rattle.std.specs.Prelude.{ℕ, ◌≡◌, Bool, List, ℤ, pos, negsuc, Option, None, Some, is_some, nat_eq, if◌then◌else◌, IsTrue}
use Rattle.nd_shape_and_slice.specs.ShapesAndIndexOrders.{in_box}
use Rattle.nd_shape_and_slice.specs.PlacesAndOverlaps.{place_of}

-- Returns the whole number as the number of a place, and `None` where it is negative.
abbrev pub place_number : ℤ → Option ℕ
place_number (pos p) = Some p
place_number (negsuc p) = None

-- Returns what a storage holds at a whole number, and `None` where this is negative.
abbrev pub stored_at : {A : Type 0} → (ℕ → Option A) → ℤ → Option A
stored_at stored (pos p) = stored p
stored_at stored (negsuc p) = None

-- Says that the storage holds an element at the place `z`.
abbrev pub names_place : {A : Type 0} → (ℕ → Option A) → ℤ → Bool
names_place stored z = is_some (stored_at stored z)

-- Says that the storage holds an element at the place of every index of the box.
abbrev pub HoldsAll : {A : Type 0} → (ℕ → Option A) → ℕ → List ℕ → List ℤ → Type 0
HoldsAll stored offset lengths strides = (i : List ℕ) → IsTrue (in_box lengths i) → IsTrue (names_place stored (place_of offset strides i))

-- Returns what the map `stored` has at `p` once the element at `place` is `x`.
abbrev pub written_at : {A : Type 0} → (ℕ → Option A) → ℕ → A → ℕ → Option A
written_at stored place x p = if nat_eq p place then Some x else stored p

-- Returns what the map `stored` has at `r` once the elements at the places `p` and `q` are exchanged.
abbrev pub swapped_at : {A : Type 0} → (ℕ → Option A) → ℕ → ℕ → ℕ → Option A
swapped_at stored p q r = if nat_eq r q then stored p else (if nat_eq r p then stored q else stored r)

-- Returns what the map `stored` has at the place `p` if this passes `g`, and else `None`.
abbrev pub kept_at : {A : Type 0} → (ℕ → Bool) → (ℕ → Option A) → ℕ → Option A
kept_at g stored p = if g p then stored p else None

-- No place is that of an index of both arrays. `places` and `others` tell the places of their indexes.
abbrev pub ShareNoPlace : (List ℕ → Option ℕ) → (List ℕ → Option ℕ) → Type 0
ShareNoPlace places others = (i j : List ℕ) (p : ℕ) → places i ≡ Some p → ¬ (others j ≡ Some p)

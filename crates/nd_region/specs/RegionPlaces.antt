-- The set of places of a region and the elements at them, as a map from numbers; and the places that a layout names.
use Rattle.std.specs.Prelude.{◌≡◌, ℕ, zero, suc, ◌+◌, List, [], ◌∷◌, ◌++◌, take, drop, ℤ, pos, negsuc, ◌+ℤ◌, ◌*ℤ◌, Bool, true, false, ◌&&◌, ◌||◌, not, Option, Some, None, nat_eq, if◌then◌else◌, IsTrue}
use Rattle.std.specs.Option.{is_some}
use Rattle.nd_shape_and_slice.specs.ShapesAndIndexOrders.{in_box}
use Rattle.nd_shape_and_slice.specs.PlacesAndOverlaps.{place_of}

module _ {A : Type 0} where
  -- Returns the element of `xs` at the place `p` if the mask `fs` is true there, and else `None`.
  abbrev pub element_in : List A → List Bool → ℕ → Option A
  element_in [] fs p = None
  element_in (x ∷ xs) [] p = None
  element_in (x ∷ xs) (true ∷ fs) zero = Some x
  element_in (x ∷ xs) (false ∷ fs) zero = None
  element_in (x ∷ xs) (f ∷ fs) (suc p) = element_in xs fs p

  -- Returns the element of `xs` at the place `p` if the mask `fs` is true there, and else `None`. It is `element_in`
  -- under a name that proofs don't unfold.
  unfoldable pub stored_in : List A → List Bool → ℕ → Option A
  stored_in xs fs p = element_in xs fs p

  -- Returns `ys` with the elements of `xs` at the places where the mask is true, as far as `xs` goes.
  abbrev pub merged_rows : List Bool → List A → List A → List A
  merged_rows [] xs ys = ys
  merged_rows (f ∷ fs) [] ys = ys
  merged_rows (f ∷ fs) (x ∷ xs) [] = []
  merged_rows (f ∷ fs) (x ∷ xs) (y ∷ ys) = (if f then x else y) ∷ merged_rows fs xs ys

  -- Returns `xs` with the elements of `ws` at the places that pass `test`, as far as `ws` goes.
  abbrev pub written_where : (ℕ → Bool) → List A → List A → List A
  written_where test [] ws = []
  written_where test (x ∷ xs) [] = x ∷ xs
  written_where test (x ∷ xs) (w ∷ ws) = (if test zero then w else x) ∷ written_where (λ k. test (suc k)) xs ws

  -- Returns `xs` with its elements replaced by those of `ys`. The length stays: a longer `ys` is cut, and after a
  -- shorter one the rest of `xs` stays.
  abbrev pub overwritten_items : List A → List A → List A
  overwritten_items [] ys = []
  overwritten_items (x ∷ xs) [] = x ∷ xs
  overwritten_items (x ∷ xs) (y ∷ ys) = y ∷ overwritten_items xs ys

  -- Returns `xs` with its `n` elements from `p` on replaced by `ws`.
  abbrev pub run_written : List A → ℕ → ℕ → List A → List A
  run_written xs p n ws = take p xs ++ (ws ++ drop (p + n) xs)

  -- Says that the map `m` has an element at the whole number, which is no place if it is negative.
  abbrev pub has_place : (ℕ → Option A) → ℤ → Bool
  has_place m (pos p) = is_some (m p)
  has_place m (negsuc n) = false

-- Returns the mask with those of its places alone that pass `g`.
abbrev pub kept_where : (ℕ → Bool) → List Bool → List Bool
kept_where g [] = []
kept_where g (f ∷ fs) = (f && g zero) ∷ kept_where (λ k. g (suc k)) fs

-- Says that some number below `n` passes `g`.
abbrev pub any_below : ℕ → (ℕ → Bool) → Bool
any_below zero g = false
any_below (suc n) g = g n || any_below n g

-- Says that the whole number is the place `p`.
abbrev pub equals_place : ℤ → ℕ → Bool
equals_place (pos n) p = nat_eq n p
equals_place (negsuc n) p = false

-- Says that `p` is the place of some index of the lengths `ns` under the strides `ss`, where `z` is that of the index
-- of zeros.
abbrev pub names_from : ℤ → List ℕ → List ℤ → ℕ → Bool
names_from z [] ss p = equals_place z p
names_from z (n ∷ ns) [] p = any_below n (λ j. names_from z ns [] p)
names_from z (n ∷ ns) (s ∷ ss) p = any_below n (λ j. names_from (z +ℤ (pos j *ℤ s)) ns ss p)

-- Says that `p` is the place of some index of the layout with this offset, the lengths `ns` and the strides `ss`.
abbrev pub names : ℕ → List ℕ → List ℤ → ℕ → Bool
names offset ns ss p = names_from (pos offset) ns ss p

-- Says that `p` is the place of no index of the layout with this offset, the lengths `ns` and the strides `ss`.
abbrev pub names_not : ℕ → List ℕ → List ℤ → ℕ → Bool
names_not offset ns ss p = not (names offset ns ss p)

-- Says that `p` is the place of some index of the first layout or of the second.
abbrev pub names_either : ℕ → List ℕ → List ℤ → ℕ → List ℕ → List ℤ → ℕ → Bool
names_either offset ns ss offset' ns' ss' p = names offset ns ss p || names offset' ns' ss' p

-- Says that each number below `n` passes `g`.
abbrev pub all_below : ℕ → (ℕ → Bool) → Bool
all_below zero g = true
all_below (suc n) g = g n && all_below n g

-- Says that the whole number isn't negative, and as a place passes `g`.
abbrev pub place_passes : (ℕ → Bool) → ℤ → Bool
place_passes g (pos p) = g p
place_passes g (negsuc n) = false

-- Says that the place of each index of the lengths `ns` under the strides `ss` passes `g`, where `z` is that of the
-- index of zeros. It computes where the layout is written out.
abbrev pub all_pass : (ℕ → Bool) → ℤ → List ℕ → List ℤ → Bool
all_pass g z [] ss = place_passes g z
all_pass g z (n ∷ ns) [] = all_below n (λ j. all_pass g z ns [])
all_pass g z (n ∷ ns) (s ∷ ss) = all_below n (λ j. all_pass g (z +ℤ (pos j *ℤ s)) ns ss)

-- No index of the first layout has the same place as an index of the second.
abbrev pub LayoutsShareNoPlace : ℕ → List ℕ → List ℤ → ℕ → List ℕ → List ℤ → Type 0
LayoutsShareNoPlace offset ns ss offset' ns' ss' = (i j : List ℕ) → IsTrue (in_box ns i) → IsTrue (in_box ns' j) → ¬ (place_of offset ss i ≡ place_of offset' ss' j)

-- Distinct indexes of the layout have distinct places.
abbrev pub HasDistinctPlaces : ℕ → List ℕ → List ℤ → Type 0
HasDistinctPlaces offset ns ss = (i j : List ℕ) → IsTrue (in_box ns i) → IsTrue (in_box ns j) → place_of offset ss i ≡ place_of offset ss j → i ≡ j

-- The places of an array's indexes.
use Rattle.nd_array_core.proofs.NamesFromOtherCrates.{◌≡◌, ℕ, ◌<◌, Bool, true, false, List, length, ℤ, pos, negsuc, refl, sym, ◌∙◌, Option, Some, None, is_some, if◌then◌else◌, in_box, size_of, place_of, IsSeparated, place_number, stored_at, is_place, ReachesPlaces, inside, one_index, number_is}
use Rattle.nd_array_core.specs.ArrayInStorage.{found_at}

module _ (offset : ℕ) (ns : List ℕ) (ss : List ℤ) where
  -- the place of an index
  abbrev place : List ℕ → Option ℕ
  place i = inside ns i (place_number (place_of offset ss i))

  numbered : (z : ℤ) → is_place z ≡ true → is_some (place_number z) ≡ true
  numbered (pos p) h = refl
  numbered (negsuc p) h = absurd cc

  pub in_box_has_place : ReachesPlaces offset ns ss → (i : List ℕ) → is_some (place i) ≡ in_box ns i
  in_box_has_place reach i = by_test (in_box ns i) refl
    where
      by_test : (b : Bool) → in_box ns i ≡ b → is_some (place i) ≡ in_box ns i
      by_test true h = rw h (numbered (place_of offset ss i) (reach i h))
      by_test false h = rw h refl

  stored_there : {A : Type 0} (stored : ℕ → Option A) (z : ℤ) → stored_at stored z ≡ found_at stored (place_number z)
  stored_there stored (pos p) = refl
  stored_there stored (negsuc p) = refl

  pub shows_stored : {A : Type 0} (stored : ℕ → Option A) (i : List ℕ) → inside ns i (stored_at stored (place_of offset ss i)) ≡ found_at stored (place i)
  shows_stored stored i = by_test (in_box ns i) refl
    where
      by_test : (b : Bool) → in_box ns i ≡ b → inside ns i (stored_at stored (place_of offset ss i)) ≡ found_at stored (place i)
      by_test true h = rw h (stored_there stored (place_of offset ss i))
      by_test false h = rw h refl

  -- an index that has a place lies in the box, and its place is that of the layout
  placed : (b : Bool) (i : List ℕ) (p : ℕ) → in_box ns i ≡ b → (if b then place_number (place_of offset ss i) else None) ≡ Some p → (in_box ns i ≡ true) × (place_of offset ss i ≡ pos p)
  placed true i p h e = (h, number_is (place_of offset ss i) p e)
  placed false i p h e = absurd cc

  pub places_differ : length ss ≡ length ns → (0 < size_of ns → IsSeparated ns ss) → (i j : List ℕ) (p : ℕ) → place i ≡ Some p → place j ≡ Some p → i ≡ j
  places_differ as_many apart i j p at_i at_j =
      let a = placed (in_box ns i) i p refl at_i in
      let b = placed (in_box ns j) j p refl at_j in
      one_index ns ss offset i j as_many apart a.0 b.0 (a.1 ∙ sym b.1)

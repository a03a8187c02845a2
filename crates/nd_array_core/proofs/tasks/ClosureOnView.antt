-- A task on a view by a layout: what it is handed, and what the storage and the array hold afterwards.
use Rattle.nd_array_core.proofs.NamesFromOtherCrates.{◌≡◌, ℕ, Bool, true, false, List, ℤ, pos, negsuc, refl, ap, sym, ◌∙◌, Option, Some, None, is_some, if◌then◌else◌, in_box, place_of, names, named_by, named_at, stored_at, names_place, place_number, HoldsAll, inside, with_named, OthersStay}
use Rattle.nd_array_core.specs.ArrayInStorage.{found_at}
use Rattle.nd_array_core.specs.scoped.ViewTasks.{array_placed_at, IsNamedMap, IsViewOf, LiesSoundly}

module _ {A : Type 0} (m : ℕ → Option A) (offset : ℕ) (ns : List ℕ) (ss : List ℤ) where
  -- the place of an index, and the element there
  abbrev place_in : List ℕ → Option ℕ
  place_in i = inside ns i (place_number (place_of offset ss i))

  abbrev element_in : List ℕ → Option A
  element_in i = inside ns i (stored_at m (place_of offset ss i))

  -- a place that the layout names is that of an index
  named_place : (p : ℕ) → names offset ns ss p ≡ true → (i : List ℕ) × (place_in i ≡ Some p)
  named_place p e = let i = named_by offset ns ss p e in (i.0, rw (i.1, i.2) refl)

  pub unnamed : (p : ℕ) → ((i : List ℕ) → place_in i ≡ Some p → ⊥) → names offset ns ss p ≡ false
  unnamed p none = by_test (names offset ns ss p) refl
    where
      by_test : (b : Bool) → names offset ns ss p ≡ b → names offset ns ss p ≡ false
      by_test true e = let i = named_place p e in absurd (none i.0 i.1)
      by_test false e = e

  -- ---- what the view holds
  module _ (k : ℕ → Option A) (named : IsNamedMap m offset ns ss k) where
    at_named : (p : ℕ) (i : List ℕ) → in_box ns i ≡ true → place_of offset ss i ≡ pos p → k p ≡ m p
    at_named p i h e = named p ∙ ap (λ (b : Bool). if b then m p else None) (named_at offset ns ss p i h e)

    held_at : (z : ℤ) (i : List ℕ) → in_box ns i ≡ true → place_of offset ss i ≡ z → names_place m z ≡ true → names_place k z ≡ true
    held_at (pos p) i h e has = ap is_some (at_named p i h e) ∙ has
    held_at (negsuc n) i h e has = has

    pub part_holds : HoldsAll m offset ns ss → HoldsAll k offset ns ss
    part_holds holds i h = held_at (place_of offset ss i) i h refl (holds i h)

    shown_at : (z : ℤ) (i : List ℕ) → in_box ns i ≡ true → place_of offset ss i ≡ z → found_at k (place_number z) ≡ stored_at m z
    shown_at (pos p) i h e = at_named p i h e
    shown_at (negsuc n) i h e = refl

    shown : (i : List ℕ) (b : Bool) → in_box ns i ≡ b → found_at k (place_in i) ≡ element_in i
    shown i true h = rw h (shown_at (place_of offset ss i) i h refl)
    shown i false h = rw h refl

    pub part_is_view : IsViewOf ns place_in element_in (array_placed_at k offset ns ss)
    part_is_view = record { same_shape = refl; same_place = λ i. refl; same_element = λ i. shown i (in_box ns i) refl }

    pub part_sound : LiesSoundly m offset ns ss → LiesSoundly k offset ns ss
    part_sound sound = record { valid = sound.valid; holds = part_holds sound.holds; own_places = sound.own_places }

  -- ---- what the storage and the array hold afterwards
  module _ (new : ℕ → Option A) where
    there_at : (z : ℤ) → ((p : ℕ) → is_some (new p) ≡ is_some (m p)) → names_place m z ≡ true → names_place new z ≡ true
    there_at (pos p) there has = there p ∙ has
    there_at (negsuc n) there has = has

    pub still_holds : ((p : ℕ) → is_some (new p) ≡ is_some (m p)) → HoldsAll m offset ns ss → HoldsAll new offset ns ss
    still_holds there holds i h = there_at (place_of offset ss i) there (holds i h)

    module _ (w : ℕ → Option A) (is : (p : ℕ) → new p ≡ with_named m offset ns ss w p) where
      pub others_stay : OthersStay place_in m new
      others_stay p none = is p ∙ ap (λ (b : Bool). if b then w p else m p) (unnamed p none)

      left_there : (z : ℤ) (i : List ℕ) → in_box ns i ≡ true → place_of offset ss i ≡ z → found_at w (place_number z) ≡ stored_at new z
      left_there (pos p) i h e = sym (is p ∙ ap (λ (b : Bool). if b then w p else m p) (named_at offset ns ss p i h e))
      left_there (negsuc n) i h e = refl

      left : (i : List ℕ) (b : Bool) → in_box ns i ≡ b → found_at w (place_in i) ≡ inside ns i (stored_at new (place_of offset ss i))
      left i true h = rw h (left_there (place_of offset ss i) i h refl)
      left i false h = rw h refl

      -- the array shows what the view does
      pub left_is_view : IsViewOf ns place_in (λ i. inside ns i (stored_at new (place_of offset ss i))) (array_placed_at w offset ns ss)
      left_is_view = record { same_shape = refl; same_place = λ i. refl; same_element = λ i. left i (in_box ns i) refl }

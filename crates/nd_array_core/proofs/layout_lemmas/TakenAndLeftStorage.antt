-- A storage of which the places of a layout are taken out: what is taken has these, what is left has all others.
use Rattle.nd_array_core.proofs.NamesFromOtherCrates.{◌≡◌, ℕ, ◌+◌, ◌-◌, ◌<◌, ◌≤◌, Bool, true, false, List, length, ℤ, pos, negsuc, refl, ap, sym, ◌∙◌, get_or, arith, Option, None, Some, slice_index, if◌then◌else◌, get_or-set_same, length-set, not_from_false, false_from_ne_true, in_box, size_of, place_of, IsSeparated, length-in_box, coordinate_below, names, names_not, LayoutsShareNoPlace, named_by, named_at, lower_shape, upper_shape, upper_index, inside, stored_at, place_number, names_place, HoldsAll, kept_at, ShareNoPlace, IsStep, step_some, one_index, seen_inside, number_is}
use Rattle.std.specs.Option.{is_some}
use Rattle.nd_array_core.specs.layout.ViewsOfStorageParts.{HoldsEachOnce, IsViewUnder}
use Rattle.nd_array_core.proofs.layout_lemmas.ElementsUnderNewLayout.{step_holds, step_element}

module _ {A : Type 0} (stored new : ℕ → Option A) (offset : ℕ) (ns : List ℕ) (ss : List ℤ) where
  abbrev pub Taken : Type 0
  Taken = (p : ℕ) → new p ≡ kept_at (names offset ns ss) stored p

  abbrev pub Left : Type 0
  Left = (p : ℕ) → new p ≡ kept_at (names_not offset ns ss) stored p

  taken_there : (z : ℤ) (i : List ℕ) → Taken → in_box ns i ≡ true → place_of offset ss i ≡ z → stored_at new z ≡ stored_at stored z
  taken_there (pos p) i is h e = is p ∙ ap (λ (b : Bool). if b then stored p else None) (named_at offset ns ss p i h e)
  taken_there (negsuc n) i is h e = refl

  -- what is taken has the layout's places
  pub taken_holds : Taken → HoldsAll stored offset ns ss → HoldsAll new offset ns ss
  taken_holds is holds i h = ap is_some (taken_there (place_of offset ss i) i is h refl) ∙ holds i h

  -- with the elements that were there
  pub taken_element : Taken → (i : List ℕ) → inside ns i (stored_at new (place_of offset ss i)) ≡ inside ns i (stored_at stored (place_of offset ss i))
  taken_element is i = seen_inside ns i (stored_at new (place_of offset ss i)) (stored_at stored (place_of offset ss i)) (λ h. taken_there (place_of offset ss i) i is h refl)

  -- and no other place
  pub taken_places : Taken → HoldsAll stored offset ns ss → (p : ℕ) → is_some (new p) ≡ names offset ns ss p
  taken_places is holds p = ap is_some (is p) ∙ by_test (names offset ns ss p) refl
    where
      by_test : (b : Bool) → names offset ns ss p ≡ b → is_some (if b then stored p else None) ≡ b
      by_test true e = let at = named_by offset ns ss p e in ap (names_place stored) (sym at.2) ∙ holds at.0 at.1
      by_test false e = refl

  module _ (offset' : ℕ) (ns' : List ℕ) (ss' : List ℤ) (apart : LayoutsShareNoPlace offset ns ss offset' ns' ss') where
    left_there : (z : ℤ) (j : List ℕ) → Left → in_box ns' j ≡ true → place_of offset' ss' j ≡ z → stored_at new z ≡ stored_at stored z
    left_there (pos p) j is h e = is p ∙ ap (λ (b : Bool). if b then stored p else None) (not_from_false (names offset ns ss p) (false_from_ne_true (names offset ns ss p) (λ n. let at = named_by offset ns ss p n in apart at.0 j at.1 h (at.2 ∙ sym e))))
    left_there (negsuc n) j is h e = refl

    -- what is left has the places of each layout that shares none with the first
    pub left_holds : Left → HoldsAll stored offset' ns' ss' → HoldsAll new offset' ns' ss'
    left_holds is holds j h = ap is_some (left_there (place_of offset' ss' j) j is h refl) ∙ holds j h

    pub left_element : Left → (j : List ℕ) → inside ns' j (stored_at new (place_of offset' ss' j)) ≡ inside ns' j (stored_at stored (place_of offset' ss' j))
    left_element is j = seen_inside ns' j (stored_at new (place_of offset' ss' j)) (stored_at stored (place_of offset' ss' j)) (λ h. left_there (place_of offset' ss' j) j is h refl)

-- two layouts of one array whose maps name no index in common share no place
pub steps_apart : (offset : ℕ) (ns : List ℕ) (ss : List ℤ) {offset' : ℕ} {ns' : List ℕ} {ss' : List ℤ} {offset'' : ℕ} {ns'' : List ℕ} {ss'' : List ℤ} {source source' : List ℕ → List ℕ} → length ss ≡ length ns → (0 < size_of ns → IsSeparated ns ss)
    → IsStep offset ns ss offset' ns' ss' source → IsStep offset ns ss offset'' ns'' ss'' source' → ((i j : List ℕ) → in_box ns' i ≡ true → in_box ns'' j ≡ true → source i ≡ source' j → ⊥) → LayoutsShareNoPlace offset' ns' ss' offset'' ns'' ss''
steps_apart offset ns ss {source = source} {source' = source'} as_many separated step step' differ i j h k e =
    differ i j h k (one_index ns ss offset (source i) (source' j) as_many separated (step.within i h) (step'.within j k) (sym (step.same i h) ∙ e ∙ step'.same j k))

-- the place of an index is that of the layout
pub has_place : (ns i : List ℕ) (z : ℤ) (p : ℕ) → inside ns i (place_number z) ≡ Some p → (in_box ns i ≡ true) × (z ≡ pos p)
has_place ns i z p = at (in_box ns i) refl
  where
    at : (b : Bool) → in_box ns i ≡ b → (if b then place_number z else None) ≡ Some p → (in_box ns i ≡ true) × (z ≡ pos p)
    at true h e = (h, number_is z p e)
    at false h e = cc

-- then no place is that of an index of each
pub places_apart : (offset : ℕ) (ns : List ℕ) (ss : List ℤ) (offset' : ℕ) (ns' : List ℕ) (ss' : List ℤ) → LayoutsShareNoPlace offset ns ss offset' ns' ss'
    → ShareNoPlace (λ i. inside ns i (place_number (place_of offset ss i))) (λ i. inside ns' i (place_number (place_of offset' ss' i)))
places_apart offset ns ss offset' ns' ss' apart i j p e f =
    let at = has_place ns i (place_of offset ss i) p e in
    let at' = has_place ns' j (place_of offset' ss' j) p f in
    apart i j at.0 at'.0 (at.1 ∙ sym at'.1)

-- the coordinates of an axis below one, and those from it on
pub halves_differ : (ns : List ℕ) (a k : ℕ) → a < length ns → k ≤ slice_index ns a → (i j : List ℕ) → in_box (lower_shape ns a k) i ≡ true → in_box (upper_shape ns a k) j ≡ true → i ≡ upper_index a k j → ⊥
halves_differ ns a k on within i j h g e =
    let long : a < length (lower_shape ns a k) = omega (arith, length-set ns a k) in
    let as_long : a < length j = omega (arith, length-in_box (upper_shape ns a k) j g, length-set ns a (slice_index ns a - k)) in
    let below = coordinate_below (lower_shape ns a k) i a h long in
    let at_k = get_or-set_same ns a k 0 on in
    let shifted = ap (λ l. get_or l a 0) e ∙ get_or-set_same j a (slice_index j a + k) 0 as_long in
    omega (arith, below, at_k, shifted)

-- ---- parts as what is held and what is seen
-- a step leads from what is held to what is held
pub step_held : {A : Type 0} (stored : ℕ → Option A) {offset : ℕ} {ns : List ℕ} {ss : List ℤ} {offset' : ℕ} {ns' : List ℕ} {ss' : List ℤ} {source : List ℕ → List ℕ}
    → HoldsAll stored offset ns ss → (0 < size_of ns → IsSeparated ns ss) → IsStep offset ns ss offset' ns' ss' source → HoldsEachOnce stored offset' ns' ss'
step_held stored holds separated step = record {
  holds = step_holds stored step holds;
  own_places = λ some. step.separated (separated (step_some step some));
}

module _ {A : Type 0} {stored new : ℕ → Option A} {offset : ℕ} {ns : List ℕ} {ss : List ℤ} {offset' : ℕ} {ns' : List ℕ} {ss' : List ℤ} {shape : List ℕ} {strides : List ℤ} {at : List ℕ → Option A} {place : List ℕ → Option ℕ} where
  -- what is left holds what it held of a layout that shares no place with the one taken out
  pub left_held : LayoutsShareNoPlace offset ns ss offset' ns' ss' → IsViewUnder stored offset ns ss shape strides at place → Left stored new offset ns ss → HoldsEachOnce stored offset' ns' ss' → HoldsEachOnce new offset' ns' ss'
  left_held apart taken left held = record { holds = left_holds stored new offset ns ss offset' ns' ss' apart left held.holds; own_places = held.own_places }

  -- and shows it
  pub left_seen : {shape' : List ℕ} {strides' : List ℤ} {at' : List ℕ → Option A} {place' : List ℕ → Option ℕ}
      → LayoutsShareNoPlace offset ns ss offset' ns' ss' → IsViewUnder stored offset ns ss shape strides at place → Left stored new offset ns ss → IsViewUnder new offset' ns' ss' shape' strides' at' place' → IsViewUnder stored offset' ns' ss' shape' strides' at' place'
  left_seen apart taken left seen = record {
    shape_is = seen.shape_is;
    strides_are = seen.strides_are;
    elements = λ i. seen.elements i ∙ left_element stored new offset ns ss offset' ns' ss' apart left i;
    places = seen.places;
  }

-- what is seen under a step's layout is what the array shows at the index that the step's map names
pub seen_step : {A : Type 0} (stored : ℕ → Option A) {offset : ℕ} {ns : List ℕ} {ss : List ℤ} {offset' : ℕ} {ns' : List ℕ} {ss' : List ℤ} {source : List ℕ → List ℕ} {shape : List ℕ} {strides : List ℤ} {at : List ℕ → Option A} {place : List ℕ → Option ℕ}
    → IsStep offset ns ss offset' ns' ss' source → IsViewUnder stored offset' ns' ss' shape strides at place → (i : List ℕ) → at i ≡ inside shape i (inside ns (source i) (stored_at stored (place_of offset ss (source i))))
seen_step stored {offset = offset} {ns = ns} {ss = ss} {source = source} step seen i =
    seen.elements i ∙ step_element stored step i ∙ (λ k. inside (sym seen.shape_is k) i (inside ns (source i) (stored_at stored (place_of offset ss (source i)))))

-- at its place
pub seen_place : {A : Type 0} (stored : ℕ → Option A) {offset : ℕ} {ns : List ℕ} {ss : List ℤ} {offset' : ℕ} {ns' : List ℕ} {ss' : List ℤ} {source : List ℕ → List ℕ} {shape : List ℕ} {strides : List ℤ} {at : List ℕ → Option A} {place : List ℕ → Option ℕ}
    → IsStep offset ns ss offset' ns' ss' source → IsViewUnder stored offset' ns' ss' shape strides at place → (i : List ℕ) → place i ≡ inside shape i (inside ns (source i) (place_number (place_of offset ss (source i))))
seen_place stored {offset = offset} {ns = ns} {ss = ss} {offset' = offset'} {ns' = ns'} {ss' = ss'} {source = source} step seen i =
    seen.places i ∙ seen_inside ns' i (place_number (place_of offset' ss' i)) (inside ns (source i) (place_number (place_of offset ss (source i)))) (λ h. rw (step.within i h) (ap place_number (step.same i h)))
    ∙ (λ k. inside (sym seen.shape_is k) i (inside ns (source i) (place_number (place_of offset ss (source i)))))

-- so what is seen under it is a part of the array
pub seen_part : {A : Type 0} (stored : ℕ → Option A) {offset : ℕ} {ns : List ℕ} {ss : List ℤ} {offset' : ℕ} {ns' : List ℕ} {ss' : List ℤ} {source : List ℕ → List ℕ} {shape : List ℕ} {strides : List ℤ} {at : List ℕ → Option A} {place : List ℕ → Option ℕ} {shape' : List ℕ} {strides' : List ℤ}
    → {seen_offset : ℕ} → ns' ≡ shape' → ss' ≡ strides' → (size_of ns ≡ 0 → seen_offset ≡ offset) → IsStep offset ns ss offset' ns' ss' source → IsViewUnder stored offset' ns' ss' shape strides at place
    → (shape ≡ shape') × (strides ≡ strides') × ((i : List ℕ) → at i ≡ inside shape' i (inside ns (source i) (stored_at stored (place_of offset ss (source i)))))
    × ((i : List ℕ) → place i ≡ inside shape' i (inside ns (source i) (place_number (place_of offset ss (source i)))))
    × (size_of ns ≡ 0 → seen_offset ≡ offset)
seen_part stored {offset = offset} {ns = ns} {ss = ss} {source = source} lengths strides stays step seen =
    let shape = seen.shape_is ∙ lengths in (
      shape,
      seen.strides_are ∙ strides,
      (λ i. seen_step stored step seen i ∙ (λ k. inside (shape k) i (inside ns (source i) (stored_at stored (place_of offset ss (source i)))))),
      (λ i. seen_place stored step seen i ∙ (λ k. inside (shape k) i (inside ns (source i) (place_number (place_of offset ss (source i)))))),
      stays,
    )

-- two that are seen under layouts that share no place share none
pub seen_apart : {A : Type 0} {stored stored' : ℕ → Option A} {offset : ℕ} {ns : List ℕ} {ss : List ℤ} {offset' : ℕ} {ns' : List ℕ} {ss' : List ℤ} {shape shape' : List ℕ} {strides strides' : List ℤ} {at at' : List ℕ → Option A} {place place' : List ℕ → Option ℕ}
    → LayoutsShareNoPlace offset ns ss offset' ns' ss' → IsViewUnder stored offset ns ss shape strides at place → IsViewUnder stored' offset' ns' ss' shape' strides' at' place' → ShareNoPlace place place'
seen_apart {offset = offset} {ns = ns} {ss = ss} {offset' = offset'} {ns' = ns'} {ss' = ss'} apart seen seen' i j p e f =
    places_apart offset ns ss offset' ns' ss' apart i j p (sym (seen.places i) ∙ e) (sym (seen'.places j) ∙ f)

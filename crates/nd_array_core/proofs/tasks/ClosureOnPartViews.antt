-- A task on views of parts of an array, each by a layout step: what each is lent, and what the array shows afterwards.
use Rattle.nd_array_core.proofs.NamesFromOtherCrates.{◌≡◌, ℕ, Bool, true, false, List, ℤ, pos, negsuc, refl, ap, sym, ◌∙◌, subst, Option, None, if◌then◌else◌, in_box, place_of, names, named_by, named_at, IsStep, step_valid, step_some, stored_at, place_number, inside, with_named, placement_of, OthersStay, one_index}
use Rattle.nd_shape_and_slice.specs.declared.dimension.Dimension as dimension
use Rattle.nd_shape_and_slice.specs.declared.dimension.AxisCount as axis_count
use Rattle.nd_shape_and_slice.specs.declared.dimension.StrideList as stride_list
use Rattle.nd_elements.specs.declared.storage.Data as data_trait
use Rattle.nd_array_core.specs.declared.base.array.ArrayBase.{ArrayBase}
use Rattle.nd_array_core.specs.ArrayInStorage.{PlacedArray, found_at}
use Rattle.nd_array_core.specs.ArrayMeaning.{meaning_of, memory_layout_of, element_at, place_at}
use Rattle.nd_array_core.specs.scoped.ViewTasks.{array_placed_at, LiesBy, IsWithin, IsNamedMap, AgreesOnNamed, IsViewThrough, OthersKeep, OthersKeepTwo, IsDoneOnPlacement, IsDoneOnPair, KeepsUnnamed, KeepsUnnamedByTwo}
use Rattle.nd_array_core.proofs.layout_lemmas.ElementsUnderNewLayout.{step_holds}

-- ---- maps that have the same at the places that a layout names
module _ {A : Type 0} (m k : ℕ → Option A) (offset : ℕ) (ns : List ℕ) (ss : List ℤ) where
  pub named_agrees : IsNamedMap m offset ns ss k → AgreesOnNamed m offset ns ss k
  named_agrees named p e = named p ∙ ap (λ (b : Bool). if b then m p else None) e

  pub left_agrees : (new : ℕ → Option A) → ((p : ℕ) → new p ≡ with_named m offset ns ss k p) → AgreesOnNamed new offset ns ss k
  left_agrees new is p e = sym (is p ∙ ap (λ (b : Bool). if b then k p else m p) e)

module _ {S D T A R : Type 0} {s : data_trait.Ghosts S A} {d : dimension.Ghosts D R} {n : axis_count.Ghosts D} {r : stride_list.Ghosts R} {t : stride_list.Ghosts T} (a : ArrayBase S D T A R s d n r t) where
  abbrev here : List ℕ → ℤ
  here i = place_of a.layout.offset (t.strides_of a.layout.strides) i

  abbrev box : List ℕ → Bool
  box i = in_box (d.lengths a.layout.dim) i

  abbrev named : ℕ → Bool
  named p = names a.layout.offset (d.lengths a.layout.dim) (t.strides_of a.layout.strides) p

  -- its elements, once what it lies in is another storage
  abbrev pub element_in : S → List ℕ → Option A
  element_in new i = inside (d.lengths a.layout.dim) i (stored_at (s.stored new) (here i))

  array_lies : s.exclusive ≡ true → LiesBy (s.stored a.storage) (placement_of a.layout)
  array_lies alone = record { valid = record { as_many = a.layout.as_many; spread = a.layout.spread; checked = a.layout.checked; reach = a.layout.reach }; holds = a.inside; own_places = a.separated alone }

  -- each place that is of no index stays, where all that the layout doesn't name do
  pub others_stay : (new : S) → KeepsUnnamed (s.stored a.storage) (s.stored new) (placement_of a.layout) → OthersStay (place_at a) (s.stored a.storage) (s.stored new)
  unfolding memory_layout_of
  others_stay new keeps p none = keeps p (by_test (named p) refl)
    where
      by_test : (b : Bool) → named p ≡ b → named p ≡ false
      by_test true e = let i = named_by a.layout.offset (d.lengths a.layout.dim) (t.strides_of a.layout.strides) p e in absurd (none i.0 (rw (i.1, i.2) refl))
      by_test false e = e

  -- an index keeps its element where its place does
  kept_at : (new : S) (z : ℤ) (i : List ℕ) → here i ≡ z → ((p : ℕ) → here i ≡ pos p → s.stored new p ≡ s.stored a.storage p) → stored_at (s.stored new) z ≡ stored_at (s.stored a.storage) z
  kept_at new (pos p) i e keeps = keeps p e
  kept_at new (negsuc n) i e keeps = refl

  element_kept : (new : S) (i : List ℕ) (h : Bool) → box i ≡ h → ((p : ℕ) → box i ≡ true → here i ≡ pos p → s.stored new p ≡ s.stored a.storage p) → element_in new i ≡ element_in a.storage i
  element_kept new i true h keeps = rw h (kept_at new (here i) i refl (λ p. keeps p h))
  element_kept new i false h keeps = rw h refl

  -- ---- a part by a layout step
  module _ {offset' : ℕ} {ns' : List ℕ} {ss' : List ℤ} {source : List ℕ → List ℕ} (step : IsStep a.layout.offset (d.lengths a.layout.dim) (t.strides_of a.layout.strides) offset' ns' ss' source) where
    pub part_within : IsWithin (record { offset = offset'; lengths = ns'; strides = ss' }) (placement_of a.layout)
    part_within p e = let j = named_by offset' ns' ss' p e in named_at a.layout.offset (d.lengths a.layout.dim) (t.strides_of a.layout.strides) p (source j.0) (step.within j.0 j.1) (sym (step.same j.0 j.1) ∙ j.2)

    pub part_lies : s.exclusive ≡ true → LiesBy (s.stored a.storage) (record { offset = offset'; lengths = ns'; strides = ss' })
    part_lies alone =
        let whole = array_lies alone in
        record { valid = step_valid step whole.valid; holds = step_holds (s.stored a.storage) step whole.holds; own_places = λ some. step.separated (whole.own_places (step_some step some)) }

    part_place : (i : List ℕ) (b : Bool) → in_box ns' i ≡ b → inside ns' i (place_number (place_of offset' ss' i)) ≡ inside ns' i (place_at a (source i))
    unfolding memory_layout_of
    part_place i true h = rw (h, step.within i h, step.same i h) refl
    part_place i false h = rw h refl

    module _ (new : S) (k : ℕ → Option A) (agrees : AgreesOnNamed (s.stored new) offset' ns' ss' k) where
      found : (z : ℤ) (i : List ℕ) → in_box ns' i ≡ true → place_of offset' ss' i ≡ z → found_at k (place_number z) ≡ stored_at (s.stored new) z
      found (pos p) i h e = agrees p (named_at offset' ns' ss' p i h e)
      found (negsuc n) i h e = refl

      part_element : (i : List ℕ) (b : Bool) → in_box ns' i ≡ b → found_at k (inside ns' i (place_number (place_of offset' ss' i))) ≡ inside ns' i (element_in new (source i))
      part_element i true h = rw (h, step.within i h) (found (place_of offset' ss' i) i h refl ∙ ap (stored_at (s.stored new)) (step.same i h))
      part_element i false h = rw h refl

      -- a view by the new layout shows what the array does through the map
      seen : {shape : List ℕ} → ns' ≡ shape → IsViewThrough shape source (place_at a) (element_in new) (array_placed_at k offset' ns' ss')
      seen shaped = subst (λ l. IsViewThrough l source (place_at a) (element_in new) (array_placed_at k offset' ns' ss')) shaped
          (record { same_shape = refl; same_place = λ i. part_place i (in_box ns' i) refl; same_element = λ i. part_element i (in_box ns' i) refl })

    pub part_seen : {shape : List ℕ} → ns' ≡ shape → (k : ℕ → Option A) → AgreesOnNamed (s.stored a.storage) offset' ns' ss' k → IsViewThrough shape source (place_at a) (element_at a) (array_placed_at k offset' ns' ss')
    unfolding meaning_of
    part_seen shaped k agrees = seen a.storage k agrees shaped

    pub part_lent : {shape : List ℕ} → ns' ≡ shape → (k : ℕ → Option A) → IsNamedMap (s.stored a.storage) offset' ns' ss' k → IsViewThrough shape source (place_at a) (element_at a) (array_placed_at k offset' ns' ss')
    part_lent shaped k named = part_seen shaped k (named_agrees (s.stored a.storage) k offset' ns' ss' named)

    -- a place that no index of the whole has is none of the part
    not_within : (p : ℕ) → named p ≡ false → names offset' ns' ss' p ≡ false
    not_within p e = by_test (names offset' ns' ss' p) refl
      where
        by_test : (b : Bool) → names offset' ns' ss' p ≡ b → names offset' ns' ss' p ≡ false
        by_test true is = absurd (let there = part_within p is in cc)
        by_test false none = none

    pub part_stays : (new : S) → KeepsUnnamed (s.stored a.storage) (s.stored new) (record { offset = offset'; lengths = ns'; strides = ss' }) → OthersStay (place_at a) (s.stored a.storage) (s.stored new)
    part_stays new keeps = others_stay new (λ p e. keeps p (not_within p e))

    module _ {shape : List ℕ} (shaped : ns' ≡ shape) where
      -- the place of an index that the map names none of isn't one of the part
      not_named : s.exclusive ≡ true → (p : ℕ) (i : List ℕ) → box i ≡ true → here i ≡ pos p → ((j : List ℕ) → in_box shape j ≡ true → source j ≡ i → ⊥) → names offset' ns' ss' p ≡ false
      not_named alone p i h e other = by_test (names offset' ns' ss' p) refl
        where
          by_test : (b : Bool) → names offset' ns' ss' p ≡ b → names offset' ns' ss' p ≡ false
          by_test true is = let j = named_by offset' ns' ss' p is in absurd (other j.0 (ap (λ l. in_box l j.0) (sym shaped) ∙ j.1) (one_index (d.lengths a.layout.dim) (t.strides_of a.layout.strides) a.layout.offset (source j.0) i a.layout.as_many (a.separated alone) (step.within j.0 j.1) h (sym (step.same j.0 j.1) ∙ j.2 ∙ sym e)))
          by_test false none = none

      -- each index that the part names none of keeps its element
      pub part_kept : s.exclusive ≡ true → (new : S) → KeepsUnnamed (s.stored a.storage) (s.stored new) (record { offset = offset'; lengths = ns'; strides = ss' }) → OthersKeep shape source (element_in a.storage) (element_in new)
      part_kept alone new keeps i none = element_kept new i (box i) refl (λ p h e. keeps p (not_named alone p i h e none))

      -- the task is done on the part
      pub part_done : {done : PlacedArray A → PlacedArray A → Type 0} (new : S) → IsDoneOnPlacement done (s.stored a.storage) (s.stored new) (record { offset = offset'; lengths = ns'; strides = ss' })
          → (v : PlacedArray A) × (w : PlacedArray A) × IsViewThrough shape source (place_at a) (element_at a) v × IsViewThrough shape source (place_at a) (element_in new) w × done v w
      part_done new did = (
        array_placed_at did.0 offset' ns' ss',
        array_placed_at did.1 offset' ns' ss',
        part_lent shaped did.0 did.2,
        seen new did.1 (left_agrees (s.stored a.storage) did.1 offset' ns' ss' (s.stored new) did.4) shaped,
        did.3,
      )

  -- ---- two parts
  module _ {f1 : ℕ} {n1 : List ℕ} {s1 : List ℤ} {g1 : List ℕ → List ℕ} {f2 : ℕ} {n2 : List ℕ} {s2 : List ℤ} {g2 : List ℕ → List ℕ} {shape1 shape2 : List ℕ}
      (one : IsStep a.layout.offset (d.lengths a.layout.dim) (t.strides_of a.layout.strides) f1 n1 s1 g1) (two : IsStep a.layout.offset (d.lengths a.layout.dim) (t.strides_of a.layout.strides) f2 n2 s2 g2) (shaped1 : n1 ≡ shape1) (shaped2 : n2 ≡ shape2) where
    pub parts_kept : s.exclusive ≡ true → (new : S) → KeepsUnnamedByTwo (s.stored a.storage) (s.stored new) (record { offset = f1; lengths = n1; strides = s1 }) (record { offset = f2; lengths = n2; strides = s2 }) → OthersKeepTwo shape1 g1 shape2 g2 (element_in a.storage) (element_in new)
    parts_kept alone new keeps i none none' = element_kept new i (box i) refl (λ p h e. keeps p (not_named one shaped1 alone p i h e none) (not_named two shaped2 alone p i h e none'))

    pub parts_done : {done : PlacedArray A → PlacedArray A → PlacedArray A → PlacedArray A → Type 0} (new : S) → IsDoneOnPair done (s.stored a.storage) (s.stored new) (record { offset = f1; lengths = n1; strides = s1 }) (record { offset = f2; lengths = n2; strides = s2 })
        → (v0 : PlacedArray A) × (v1 : PlacedArray A) × (w0 : PlacedArray A) × (w1 : PlacedArray A) × IsViewThrough shape1 g1 (place_at a) (element_at a) v0 × IsViewThrough shape2 g2 (place_at a) (element_at a) v1 × done v0 v1 w0 w1
        × IsViewThrough shape1 g1 (place_at a) (element_in new) w0 × IsViewThrough shape2 g2 (place_at a) (element_in new) w1
    parts_done new did = (
      array_placed_at did.0 f1 n1 s1,
      array_placed_at did.1 f2 n2 s2,
      array_placed_at did.2 f1 n1 s1,
      array_placed_at did.3 f2 n2 s2,
      part_seen one shaped1 did.0 did.4,
      part_seen two shaped2 did.1 did.5,
      did.6,
      seen one new did.2 did.7 shaped1,
      seen two new did.3 did.8 shaped2,
    )

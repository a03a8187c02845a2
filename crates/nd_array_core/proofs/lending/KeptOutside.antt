-- What an array shows at the indexes that none of several lists of slices names, where each place that is none of the lists' holds what it held.
use Rattle.nd_array_core.proofs.NamesFromOtherCrates.{◌≡◌, ℕ, Bool, true, false, List, pos, negsuc, ℤ, refl, ap, sym, ◌∙◌, Option, ◌||◌, SliceInfoElem, in_box, place_of, Placement, placement_of, named_by, stored_at, inside, one_index}
use Rattle.nd_shape_and_slice.specs.declared.dimension.Dimension as dimension
use Rattle.nd_shape_and_slice.specs.declared.dimension.AxisCount as axis_count
use Rattle.nd_shape_and_slice.specs.declared.dimension.StrideList as stride_list
use Rattle.nd_elements.specs.declared.storage.Data as data_trait
use Rattle.nd_array_core.specs.declared.base.array.ArrayBase.{ArrayBase}
use Rattle.nd_array_core.specs.ArrayMeaning.{meaning_of}
use Rattle.nd_array_core.specs.PartsOfArrays.{NamesNot, sliced_part}
use Rattle.nd_array_core.specs.layout.ViewsOfStorageParts.{IsListed}
use Rattle.nd_array_core.specs.scoped.TasksOnParts.{NoneOfThreeNames, NoneOfFourNames}
use Rattle.nd_array_core.specs.layout.SeveralMutableViews.{named_of, pass_either, pass_any_of_three, pass_any_of_four}

not_so : (b : Bool) → (b ≡ true → ⊥) → b ≡ false
not_so true never = absurd (never refl)
not_so false never = refl

neither : (b c : Bool) → b ≡ false → c ≡ false → (b || c) ≡ false
neither true c e f = cc
neither false c e f = f

-- a place that fails both tests passes neither
fails_both : (f g : ℕ → Bool) (p : ℕ) → f p ≡ false → g p ≡ false → pass_either f g p ≡ false
unfolding pass_either
fails_both f g p e e' = neither (f p) (g p) e e'

module _ {S D A T R : Type 0} {s : data_trait.Ghosts S A} {d : dimension.Ghosts D R} {n : axis_count.Ghosts D} {r : stride_list.Ghosts R} {t : stride_list.Ghosts T} (array : ArrayBase S D T A R s d n r t) (alone : s.exclusive ≡ true) where
  abbrev whole : Placement
  whole = placement_of array.layout

  -- the element that a storage has at an index of the array
  abbrev at : (ℕ → Option A) → List ℕ → Option A
  at m i = inside whole.lengths i (stored_at m (place_of whole.offset whole.strides i))

  -- the place of an index that a list doesn't name is none of the list's layout
  unnamed : {es : List SliceInfoElem} {a : Placement} → IsListed whole es a → (p : ℕ) (i : List ℕ) → in_box whole.lengths i ≡ true → place_of whole.offset whole.strides i ≡ pos p → NamesNot (sliced_part array es) i → named_of a p ≡ false
  unfolding meaning_of named_of
  unnamed {a = a} is p i h e none = not_so (named_of a p) (λ named.
      let found = named_by a.offset a.lengths a.strides p named in let j = found.0 in
      none j (ap (λ lengths. in_box lengths j) (sym is.lengths_are) ∙ found.1)
      (one_index whole.lengths whole.strides whole.offset _ i array.layout.as_many (array.separated alone) (is.list_step.within j found.1) h (sym (is.list_step.same j found.1) ∙ found.2 ∙ sym e)))

  module _ (new : ℕ → Option A) (test : ℕ → Bool) (stay : (p : ℕ) → test p ≡ false → new p ≡ s.stored array.storage p) where
    same_there : (z : ℤ) (i : List ℕ) → ((p : ℕ) → z ≡ pos p → test p ≡ false) → stored_at new z ≡ stored_at (s.stored array.storage) z
    same_there (pos p) i fails = stay p (fails p refl)
    same_there (negsuc n) i fails = refl

    same_at : (i : List ℕ) → ((p : ℕ) → in_box whole.lengths i ≡ true → place_of whole.offset whole.strides i ≡ pos p → test p ≡ false) → at new i ≡ at (s.stored array.storage) i
    same_at i fails = by_box (in_box whole.lengths i) refl
      where
        by_box : (b : Bool) → in_box whole.lengths i ≡ b → at new i ≡ at (s.stored array.storage) i
        by_box true h = rw h (same_there (place_of whole.offset whole.strides i) i (λ p e. fails p h e))
        by_box false h = rw h refl

  module _ (new : ℕ → Option A) {es fs : List SliceInfoElem} {a b : Placement} (of_a : IsListed whole es a) (of_b : IsListed whole fs b) where
    pub two_keep : ((p : ℕ) → pass_either (named_of a) (named_of b) p ≡ false → new p ≡ s.stored array.storage p)
        → (i : List ℕ) → NamesNot (sliced_part array es) i → NamesNot (sliced_part array fs) i → at new i ≡ at (s.stored array.storage) i
    two_keep stay i none_a none_b =
        same_at new (pass_either (named_of a) (named_of b)) stay i (λ p h e. fails_both (named_of a) (named_of b) p (unnamed of_a p i h e none_a) (unnamed of_b p i h e none_b))

    module _ {gs : List SliceInfoElem} {c : Placement} (of_c : IsListed whole gs c) where
      pub three_keep : ((p : ℕ) → pass_any_of_three (named_of a) (named_of b) (named_of c) p ≡ false → new p ≡ s.stored array.storage p)
          → (i : List ℕ) → NoneOfThreeNames array es fs gs i → at new i ≡ at (s.stored array.storage) i
      three_keep stay i (none_a, none_b, none_c) =
          same_at new (pass_any_of_three (named_of a) (named_of b) (named_of c)) stay i (λ p h e.
          fails_both (named_of a) (pass_either (named_of b) (named_of c)) p (unnamed of_a p i h e none_a)
          (fails_both (named_of b) (named_of c) p (unnamed of_b p i h e none_b) (unnamed of_c p i h e none_c)))

      module _ {hs : List SliceInfoElem} {c' : Placement} (of_d : IsListed whole hs c') where
        pub four_keep : ((p : ℕ) → pass_any_of_four (named_of a) (named_of b) (named_of c) (named_of c') p ≡ false → new p ≡ s.stored array.storage p)
            → (i : List ℕ) → NoneOfFourNames array es fs gs hs i → at new i ≡ at (s.stored array.storage) i
        four_keep stay i (none_a, none_b, none_c, none_d) =
            same_at new (pass_any_of_four (named_of a) (named_of b) (named_of c) (named_of c')) stay i (λ p h e.
            fails_both (named_of a) (pass_any_of_three (named_of b) (named_of c) (named_of c')) p (unnamed of_a p i h e none_a)
            (fails_both (named_of b) (pass_either (named_of c) (named_of c')) p (unnamed of_b p i h e none_b)
            (fails_both (named_of c) (named_of c') p (unnamed of_c p i h e none_c) (unnamed of_d p i h e none_d))))

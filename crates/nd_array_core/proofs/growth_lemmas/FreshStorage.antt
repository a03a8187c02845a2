-- Fresh storage that is to grow along an axis: the layout fills it, and all of it lies after nothing.
use Rattle.nd_array_core.proofs.NamesFromOtherCrates.{◌≡◌, ℕ, ◌+◌, ◌-◌, ◌<◌, Bool, true, false, cond, ltb, List, [], length, get_or, set, refl, ap, sym, ◌∙◌, arith, subst, ℤ, pos, ◌+ℤ◌, Result, Ok, Err, OnOk, OnErr, slice_get, le-ltb, set-get_or, HasCheckedSize, in_box, size_of, displacement_of, place_of, IsSeparated, lower_shape, upper_shape, upper_index, there_is_some, growing_strides, FillsStorage, IsFilledAfter, Placement, as_placement, reach_down, sums, fresh_full, fresh_valid, length-growing_strides, above_low, above_low-is, above_low-lt, each_above_low, size_of-set, is_number, Meaning, inside, stored_at, names_place, HoldsAll}
use lib.IntN.{neg_ℤ}
use borrow.Author.Differences.{neg_is}
use Rattle.nd_array_core.specs.ConcatenationAndSplit.{concatenated, concatenated_shape}
use Rattle.nd_array_core.specs.LayoutLaws.{NothingOutside}
use Rattle.nd_array_core.specs.growth.Append.{IsAlikeOnOtherAxes, ArePutAfter}
use Rattle.nd_array_core.proofs.growth_lemmas.AppendInFilledStorage.{shown, fits_back, first_none, no_index}
use Rattle.nd_array_core.proofs.law_lemmas.LayoutLaws.{same_meaning, inside_box}
use Rattle.nd_array_core.proofs.growth_lemmas.BroadcastAppends.{with_after, with_itself}

not_below : (d k : ℕ) (z : ℤ) → z ≡ neg_ℤ (pos d) +ℤ pos 0 → pos 0 +ℤ z ≡ pos k → d ≡ 0
not_below d k z e there = let sum : d + k ≡ 0 = nothing d k (sym (ap (λ y. pos 0 +ℤ y) e) ∙ there) in omega (arith, sum)
  where
    nothing : (d k : ℕ) → pos 0 +ℤ (neg_ℤ (pos d) +ℤ pos 0) ≡ pos k → d + k ≡ 0
    nothing d k e = omega (arith, sums, neg_is (pos d), e)

placed : (d k : ℕ) (z : ℤ) → d ≡ 0 → z ≡ neg_ℤ (pos d) +ℤ pos k → pos 0 +ℤ z ≡ pos k
placed d k z none e = omega (arith, sums, neg_is (pos d), none, e)

module _ (ns : List ℕ) (a : ℕ) (on : a < length ns) (some : 0 < size_of ns) (checked : HasCheckedSize ns) where
  lowest : reach_down ns (growing_strides a ns) ≡ 0
  lowest =
      let gs = growing_strides a ns in
      let w = fresh_full ns a on some in
      let bottom = each_above_low ns gs (length-growing_strides ns a on some) w.0 w.1 0 some in
      let valid = fresh_valid ns a on some checked in
      let there = is_number (pos 0 +ℤ displacement_of gs bottom.0) (valid.reach bottom.0 bottom.1) in
      not_below (reach_down ns gs) there.0 (displacement_of gs bottom.0) bottom.2 there.1

  pub fresh_fills : FillsStorage (as_placement 0 ns (growing_strides a ns))
  fresh_fills =
      let gs = growing_strides a ns in
      let w = fresh_full ns a on some in
      record {
        apart = w.0;
        within = λ i h. (above_low ns gs (displacement_of gs i), above_low-lt ns gs i w.1 h, placed (reach_down ns gs) (above_low ns gs (displacement_of gs i)) (displacement_of gs i) lowest (above_low-is ns gs i h));
      }

  same_index : (i : List ℕ) → upper_index a 0 i ≡ i
  same_index i = ap (set i a) (omega arith) ∙ set-get_or i a 0

  pub whole_upper : upper_shape ns a 0 ≡ ns
  whole_upper = ap (set ns a) (omega arith) ∙ set-get_or ns a 0

  pub none_lower : size_of (lower_shape ns a 0) ≡ 0
  none_lower = let e = size_of-set ns a 0 on in omega (arith, e)

  pub fresh_after : IsFilledAfter (as_placement 0 ns (growing_strides a ns)) a 0
  fresh_after =
      let gs = growing_strides a ns in
      let full = fresh_full ns a on some in
      record {
        apart = full.0;
        beyond = λ i h.
            let w = fresh_fills.within i (sym (ap (λ s. in_box s i) whole_upper) ∙ h) in
            let base = none_lower in
            (w.0, subst (λ s. w.0 < size_of s) (sym whole_upper) w.1, ap (place_of 0 gs) (same_index i) ∙ (w.2 ∙ ap pos (omega (arith, base))));
        each = λ k h.
            let few : k < size_of ns = subst (λ s. k < size_of s) whole_upper h in
            let w = each_above_low ns gs (length-growing_strides ns a on some) full.0 full.1 k few in
            let base = none_lower in
            (w.0, ap (λ s. in_box s w.0) whole_upper ∙ w.1, ap (place_of 0 gs) (same_index w.0) ∙ (placed (reach_down ns gs) k (displacement_of gs w.0) lowest w.2 ∙ ap pos (omega (arith, base))));
      }

module _ {A : Type 0} (m : Meaning A) (a : ℕ) (items : List A) (on : a < length m.shape) (some : 0 < size_of m.shape) (checked : HasCheckedSize m.shape) where
  abbrev fresh : Placement
  fresh = as_placement 0 m.shape (growing_strides a m.shape)

  -- a new array of its elements alone
  fresh_shown : (new : Placement) → new ≡ fresh → ArePutAfter new a 0 m.shape m.at [] items → NothingOutside m → shown new (slice_get items) ≡ m
  fresh_shown new is put nothing =
      ap (λ p. shown p (slice_get items)) is
      ∙ same_meaning m m.shape (shown fresh (slice_get items)).at refl (λ i. by_test i (in_box m.shape i) refl)
    where
      by_test : (i : List ℕ) (b : Bool) → in_box m.shape i ≡ b → (shown fresh (slice_get items)).at i ≡ m.at i
      by_test i true h =
          inside_box m.shape i (stored_at (slice_get items) (place_of 0 (growing_strides a m.shape) i)) h
          ∙ (ap (λ j. stored_at (slice_get items) (place_of 0 (growing_strides a m.shape) j)) (sym (same_index m.shape a on some checked i))
          ∙ (ap (λ p. stored_at (slice_get items) (place_of p.offset p.strides (upper_index a 0 i))) (sym is) ∙ put.elements_put i h))
      by_test i false h = rw h (sym (nothing i h))

  fresh_holds : (new : Placement) → new ≡ fresh → ArePutAfter new a 0 m.shape m.at [] items → HoldsAll (slice_get items) new.offset new.lengths new.strides × IsSeparated new.lengths new.strides
  fresh_holds new is put =
      let fills = fresh_fills m.shape a on some checked in
      subst (λ (p : Placement). HoldsAll (slice_get items) p.offset p.lengths p.strides × IsSeparated p.lengths p.strides) (sym is)
      (λ i h. let w = fills.within i h in let few = w.1 in ap (names_place (slice_get items)) w.2 ∙ there_is_some items w.0 (let long = put.count in omega (arith, few, long)), fills.apart)

  pub fresh_or_none : {T E : Type 0} (r : Result T E) (l new : Placement) → size_of l.lengths ≡ 0 → OnOk r (new ≡ fresh) → OnOk r (ArePutAfter new a 0 m.shape m.at [] items) → OnErr r (new ≡ l) → HoldsAll (slice_get items) new.offset new.lengths new.strides × (0 < size_of new.lengths → IsSeparated new.lengths new.strides)
  fresh_or_none (Ok x) l new none is put same = let w = fresh_holds new is put in (w.0, λ _. w.1)
  fresh_or_none (Err e) l new none is put same =
      let empty : size_of new.lengths ≡ 0 = ap (λ p. size_of p.lengths) same ∙ none in
      (λ i h. absurd (no_index new.lengths i empty h), λ more. absurd (omega (arith, empty, more)))

  -- nothing stands before it
  pub fresh_joined : (old : Meaning A) (new : Placement) → a < length old.shape → IsAlikeOnOtherAxes old.shape m.shape a → size_of old.shape ≡ 0 → new ≡ fresh → ArePutAfter new a 0 m.shape m.at [] items → NothingOutside m → shown new (slice_get items) ≡ concatenated a old m
  fresh_joined old new on_old fits none is put nothing =
      fresh_shown new is put nothing
      ∙ sym (with_itself a old m fits nothing
      ∙ same_meaning m (concatenated_shape old.shape m.shape a) (with_after a old (get_or m.shape a 0) m).at shape (λ i. ap (λ s. inside s i (cond (ltb (get_or i a 0) (get_or old.shape a 0)) (old.at i) (m.at (set i a (get_or i a 0 - get_or old.shape a 0))))) shape ∙ by_test i (in_box m.shape i) refl))
    where
      first : get_or old.shape a 0 ≡ 0
      first = first_none old.shape m.shape a on_old fits none some

      shape : concatenated_shape old.shape m.shape a ≡ m.shape
      shape = ap (λ n. set old.shape a (n + get_or m.shape a 0)) first ∙ (ap (set old.shape a) (omega arith) ∙ fits_back old.shape m.shape a on_old fits)

      by_test : (i : List ℕ) (b : Bool) → in_box m.shape i ≡ b → inside m.shape i (cond (ltb (get_or i a 0) (get_or old.shape a 0)) (old.at i) (m.at (set i a (get_or i a 0 - get_or old.shape a 0)))) ≡ m.at i
      by_test i true h =
          inside_box m.shape i (cond (ltb (get_or i a 0) (get_or old.shape a 0)) (old.at i) (m.at (set i a (get_or i a 0 - get_or old.shape a 0)))) h
          ∙ (ap (λ n. cond (ltb (get_or i a 0) n) (old.at i) (m.at (set i a (get_or i a 0 - n)))) first
          ∙ (ap (λ b. cond b (old.at i) (m.at (set i a (get_or i a 0 - 0)))) (le-ltb (get_or i a 0) 0 (omega arith))
          ∙ ap m.at (ap (set i a) (omega arith) ∙ set-get_or i a 0)))
      by_test i false h = rw h (sym (nothing i h))

-- Arrays whose concatenation has no elements.
use Rattle.std.proofs.Common.{◌≡◌, ℕ, ◌<◌, ◌*◌, Bool, true, false, ltb, cond, List, [], ◌∷◌, zero, suc, map, Option, None, Some, refl, ap, sym, subst, ◌∙◌, arith}
use Rattle.std.specs.Prelude.{slice_get}
use Rattle.nd_shape_and_slice.specs.ShapesAndIndexOrders.{in_box, size_of}
use Rattle.nd_shape_and_slice.specs.LayoutIndexMaps.{inserted_index}
use Rattle.nd_shape_and_slice.proofs.RowMajor.{row_rank_below}
use Rattle.nd_array_core.specs.LayoutLaws.{with_axis_inserted, NothingOutside}
use Rattle.nd_array_core.specs.ArrayMeaning.{Meaning}
use Rattle.nd_stacking.specs.ConcatenateAndStack.{followed_by, AreStackedLengths, AreLengthsTogether, IsConcatenation, IsStack}
use Rattle.nd_stacking.proofs.EqualShapesConcatenated.{same_meaning}
use Rattle.nd_stacking.proofs.ConcatenationShapeChecks.{fit, mapped_back}
use Rattle.nd_stacking.proofs.ConcatenationByRuns.{nothing_outside_followed, shape_followed}

-- a shape without elements has no index
no_index : (ns i : List ℕ) → size_of ns ≡ 0 → in_box ns i ≡ false
no_index ns i none = by_box (in_box ns i) refl
  where
    by_box : (b : Bool) → in_box ns i ≡ b → b ≡ false
    by_box true h = let below = row_rank_below ns i h in absurd (omega (arith, below, none))
    by_box false h = refl

module _ {A : Type 0} (axis : ℕ) where
  -- arrays of one shape without elements show the same
  pub empty_is : (ms : List (Meaning A)) (ls : List ℕ) (joined : Meaning A) → AreLengthsTogether axis ms ls → size_of ls ≡ 0 → ((m : Meaning A) → slice_get ms 0 ≡ Some m → NothingOutside m)
      → joined.shape ≡ ls → NothingOutside joined → IsConcatenation axis ms joined
  empty_is [] ls joined are none nothing shape outside = absurd cc
  empty_is (m ∷ ms) ls joined are none nothing shape outside =
      let f = fit axis m ms are.0 in
      let same = are.1 ∙ sym (shape_followed axis m ms f.on) in
      same_meaning joined (followed_by axis m ms) (shape ∙ same)
      (λ i. outside i (subst (λ s. in_box s i ≡ false) (sym shape) (no_index ls i none)) ∙ sym (nothing_outside_followed axis m ms (nothing m refl) i (subst (λ s. in_box s i ≡ false) same (no_index ls i none))))

  pub empty_stack : (ms : List (Meaning A)) (ls : List ℕ) (joined : Meaning A) → AreStackedLengths axis ms ls → size_of ls ≡ 0 → joined.shape ≡ ls → NothingOutside joined → IsStack axis ms joined
  empty_stack ms ls joined are none shape outside =
      empty_is (map (with_axis_inserted axis) ms) ls joined are none
      (λ m at i out. let k = mapped_back (with_axis_inserted axis) ms 0 m at in
      ap (λ z. z.at i) k.2 ∙ ap (λ b. cond b (k.0.at (inserted_index axis i)) None) (ap (λ z. in_box z.shape i) (sym k.2) ∙ out))
      shape outside

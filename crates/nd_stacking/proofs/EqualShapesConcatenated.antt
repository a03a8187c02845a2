-- Arrays of equal lengths but along an axis, one after the other: nothing is broadcast.
use Rattle.std.proofs.Common.{◌≡◌, ℕ, ◌+◌, ◌-◌, ◌<◌, ◌≤◌, Bool, true, false, cond, ltb, List, length, get_or, set, drop, Option, None, refl, ap, sym, subst, ◌∙◌, arith, ⊎_elim}
use Rattle.std.proofs.Math.Path.{fun_ext}
use Rattle.std.proofs.lemmas.Bool.{cases_lt, lt-ltb}
use Rattle.std.proofs.lemmas.List.{length-set, set-get_or, set-set, get_or-set_same}
use Rattle.nd_shape_and_slice.specs.Broadcast.{broadcast_index, stretched_index, stretches}
use Rattle.nd_shape_and_slice.specs.ShapesAndIndexOrders.{in_box}
use Rattle.nd_shape_and_slice.proofs.BoxesByCoordinate.{coordinate_below}
use Rattle.nd_shape_and_slice.proofs.IndexesWithChangedCoordinates.{in_box-set, stretched_index-itself, stretches_itself}
use Rattle.nd_array_core.specs.ConcatenationAndSplit.{broadcast_after, concatenated, concatenated_shape}
use Rattle.nd_array_core.specs.ArrayMeaning.{Meaning, inside}
use Rattle.nd_array_core.specs.growth.Append.{FitsAfter}
use Rattle.nd_stacking.specs.ConcatenateAndStack.{two_after}

named_itself : (ns i : List ℕ) → in_box ns i ≡ true → broadcast_index ns ns i ≡ i
named_itself ns i h =
    let none : length ns - length ns ≡ 0 = omega arith in
    ap (λ k. stretched_index ns (drop k ns) (drop k i)) none ∙ stretched_index-itself ns i h

-- the lengths of the second, by the first's
second_shape : (axis : ℕ) (ns ms : List ℕ) → set ms axis (get_or ns axis 0) ≡ ns → ms ≡ set ns axis (get_or ms axis 0)
second_shape axis ns ms alike = sym (ap (λ s. set s axis (get_or ms axis 0)) (sym alike) ∙ (set-set ms axis (get_or ns axis 0) (get_or ms axis 0) ∙ set-get_or ms axis 0))

-- such a shape fits
pub fits_alike : (axis : ℕ) (ns ms : List ℕ) → axis < length ns → set ms axis (get_or ns axis 0) ≡ ns → FitsAfter ns ms axis
fits_alike axis ns ms on alike = (omega (arith, on), ap (stretches ms) (sym (second_shape axis ns ms alike)) ∙ stretches_itself ms)

module _ {A : Type 0} where
  pub same_meaning : (m n : Meaning A) → m.shape ≡ n.shape → ((i : List ℕ) → m.at i ≡ n.at i) → m ≡ n
  same_meaning m n shape at = go m.shape m.at shape at
    where
      go : (s : List ℕ) (at : List ℕ → Option A) → s ≡ n.shape → ((i : List ℕ) → at i ≡ n.at i) → (let k : Meaning A = record { shape = s; at = at } in k) ≡ n
      go s at e h = rw (fun_ext h, e) refl

module _ {A : Type 0} (axis : ℕ) (m n : Meaning A) (on : axis < length m.shape) (alike : set n.shape axis (get_or m.shape axis 0) ≡ m.shape) where
  -- the second array's element after the first
  second_at : (i : List ℕ) → in_box (concatenated_shape m.shape n.shape axis) i ≡ true → get_or m.shape axis 0 ≤ get_or i axis 0 →
      (broadcast_after axis m n).at (set i axis (get_or i axis 0 - get_or m.shape axis 0)) ≡ n.at (set i axis (get_or i axis 0 - get_or m.shape axis 0))
  second_at i h high =
      let x = get_or m.shape axis 0 in
      let y = get_or n.shape axis 0 in
      let c = get_or i axis 0 in
      let j = set i axis (c - x) in
      let whole = set m.shape axis (x + y) in
      let long : axis < length whole = let e = length-set m.shape axis (x + y) in omega (arith, e, on) in
      let below = coordinate_below whole i axis h long in
      let here = get_or-set_same m.shape axis (x + y) 0 on in
      let second = second_shape axis m.shape n.shape alike in
      let there : in_box n.shape j ≡ true =
      subst (λ s. in_box s j ≡ true) (set-set m.shape axis (x + y) y ∙ sym second) (in_box-set whole i axis y (c - x) h (omega (arith, below, here, high))) in
      ap (λ to. inside to j (n.at (broadcast_index n.shape to j))) (sym second)
      ∙ (ap (λ b. cond b (n.at (broadcast_index n.shape n.shape j)) None) there ∙ ap n.at (named_itself n.shape j there))

  either_at : (i : List ℕ) → in_box (concatenated_shape m.shape n.shape axis) i ≡ true →
      cond (ltb (get_or i axis 0) (get_or m.shape axis 0)) (m.at i) ((broadcast_after axis m n).at (set i axis (get_or i axis 0 - get_or m.shape axis 0)))
      ≡ cond (ltb (get_or i axis 0) (get_or m.shape axis 0)) (m.at i) (n.at (set i axis (get_or i axis 0 - get_or m.shape axis 0)))
  either_at i h =
      let x = get_or m.shape axis 0 in
      let c = get_or i axis 0 in
      ⊎_elim
      (λ (low : c < x). ap (λ b. cond b (m.at i) ((broadcast_after axis m n).at (set i axis (c - x)))) (lt-ltb c x low) ∙ sym (ap (λ b. cond b (m.at i) (n.at (set i axis (c - x)))) (lt-ltb c x low)))
      (λ (high : x ≤ c).
      ap (λ o. cond (ltb c x) (m.at i) o) (second_at i h high))
      (cases_lt c x)

  by_box : (i : List ℕ) (b : Bool) → in_box (concatenated_shape m.shape n.shape axis) i ≡ b → (concatenated axis m n).at i ≡ (two_after axis m n).at i
  by_box i true h =
      let x = get_or m.shape axis 0 in
      let c = get_or i axis 0 in
      ap (λ o. inside (concatenated_shape m.shape n.shape axis) i o) (either_at i h)
  by_box i false h =
      let x = get_or m.shape axis 0 in
      let c = get_or i axis 0 in
      ap (λ b. cond b (cond (ltb c x) (m.at i) ((broadcast_after axis m n).at (set i axis (c - x)))) None) h
      ∙ sym (ap (λ b. cond b (cond (ltb c x) (m.at i) (n.at (set i axis (c - x)))) None) h)

  -- what an append makes of such arrays
  pub unbroadcast : concatenated axis m n ≡ two_after axis m n
  unbroadcast = same_meaning (concatenated axis m n) (two_after axis m n) refl (λ i. by_box i (in_box (concatenated_shape m.shape n.shape axis) i) refl)

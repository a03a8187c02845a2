-- Appends one after the other to an array that is ready for them: what they leave together.
use Rattle.nd_array_core.proofs.NamesFromOtherCrates.{◌≡◌, ℕ, ◌+◌, ◌*◌, ◌<◌, ◌≤◌, inl, inr, true, List, [], ◌∷◌, ◌++◌, length, get_or, refl, ap, sym, subst, ◌∙◌, arith, ⊎_elim, remove, mul-le-mul_right, cases_eq, append_assoc, in_box, size_of, grown_shape, size_of-removed, size_of-set, Placement, same_placement, OwnedRepr, stored_list, Meaning}
use Rattle.nd_shape_and_slice.specs.declared.dimension.Dimension as dimension
use Rattle.nd_shape_and_slice.specs.declared.dimension.AxisCount as axis_count
use Rattle.nd_shape_and_slice.specs.declared.dimension.StrideList as stride_list
use Rattle.nd_elements.specs.declared.storage.Data as data_trait
use Rattle.nd_array_core.specs.declared.base.array.ArrayBase.{ArrayBase}
use Rattle.nd_array_core.specs.declared.base.array_error.ArrayError.{ArrayError}
use Rattle.nd_array_core.specs.declared.base.array_error.ArrayError.TheVariants.{Shape, NoMemory}
use Rattle.nd_array_core.specs.ArrayMeaning.{shape_of, storage_of}
use Rattle.nd_array_core.specs.PartsOfArrays.{ShowsWhole}
use Rattle.nd_array_core.specs.growth.StorageOfAppend.{array_placement, BecomesReady, GoesOn, GoesOnUnder, IsGrownBy, IsLeft, IsReadyAlong, KeepsRoom, LeavesRoom, NeedsNoMove}
use Rattle.nd_array_core.specs.growth.AppendEach.{IsGrownInTurn}
use Rattle.nd_array_core.specs.growth.ReservedAlongAxis.{added_elements, HasRoomAlong}
use Rattle.nd_array_core.proofs.growth_lemmas.CasesOfAppend.{goes_same, remove_set}

-- as many elements as so many lengths of a shape that has grown have
added_twice : (ns shape : List ℕ) (axis taken k : ℕ) → shape ≡ grown_shape ns axis taken → added_elements shape axis k ≡ k * size_of (remove ns axis)
added_twice ns shape axis taken k is = ap (λ s. k * size_of (remove s axis)) is ∙ ap (λ r. k * size_of r) (remove_set ns axis (get_or ns axis 0 + taken))

module _ {D T A R : Type 0} {s : data_trait.Ghosts (OwnedRepr A) A} {d : dimension.Ghosts D R} {n : axis_count.Ghosts D} {r : stride_list.Ghosts R} {t : stride_list.Ghosts T} where
  same_lies : (a b : ArrayBase (OwnedRepr A) D T A R s d n r t) → ShowsWhole a b → array_placement b ≡ array_placement a
  same_lies a b whole = same_placement (array_placement b) (array_placement a) whole.4 whole.0 whole.1

  pub needs_no_move : (axis : ℕ) (a : ArrayBase (OwnedRepr A) D T A R s d n r t) → IsReadyAlong axis a → NeedsNoMove axis a
  needs_no_move axis a (full, inl none) = inl none
  needs_no_move axis a (full, inr stays) = inr (full, stays)

  left_same : (axis : ℕ) (a b : ArrayBase (OwnedRepr A) D T A R s d n r t) (e : ArrayError) → IsLeft axis a b e → IsReadyAlong axis a → (array_placement b ≡ array_placement a) × (stored_list (storage_of b) ≡ stored_list (storage_of a))
  left_same axis a b (Shape kind) left ready = (same_lies a b left.0, ap stored_list left.1)
  left_same axis a b NoMemory left ready = (same_lies a b (left.0 (needs_no_move axis a ready)), left.1 ready)

  -- one that was refused
  pub goes_left : (axis : ℕ) (o a b : ArrayBase (OwnedRepr A) D T A R s d n r t) (e : ArrayError) → IsLeft axis a b e → GoesOn axis o a → GoesOn axis o b
  goes_left axis o a b e left goes =
      let same = left_same axis a b e left goes.grows_on in
      subst (λ (p : Placement × List A). GoesOnUnder axis (array_placement o) (stored_list (storage_of o)) p.0 p.1) (λ k. (sym same.0 k, sym same.1 k)) goes

  -- one more
  pub goes_then : (axis : ℕ) (o a b : ArrayBase (OwnedRepr A) D T A R s d n r t) → ((i : List ℕ) → in_box (shape_of o) i ≡ true → in_box (shape_of a) i ≡ true) → GoesOn axis o a → GoesOn axis a b → GoesOn axis o b
  goes_then axis o a b wider first second =
      let front = first.front in
      let more = second.front in
      record {
        front = (front.0 ++ more.0, more.1 ∙ (ap (λ xs. xs ++ more.0) front.1 ∙ append_assoc (stored_list (storage_of o)) front.0 more.0));
        places = λ i h. second.places i (wider i h) ∙ first.places i h;
        grows_on = second.grows_on;
      }

  pub goes_nowhere : (axis : ℕ) (a : ArrayBase (OwnedRepr A) D T A R s d n r t) → IsReadyAlong axis a → GoesOn axis a a
  goes_nowhere axis a ready = goes_same axis 0 (array_placement a) (array_placement a) (stored_list (storage_of a)) (stored_list (storage_of a)) refl refl refl refl ready

  -- room
  pub leaves_none : (axis : ℕ) (a : ArrayBase (OwnedRepr A) D T A R s d n r t) → LeavesRoom axis 0 a a
  leaves_none axis a more room = let same : more + 0 ≡ more = omega arith in subst (λ k. HasRoomAlong axis k a) same room

  pub leaves_then : (axis used k : ℕ) (o a b : ArrayBase (OwnedRepr A) D T A R s d n r t) → LeavesRoom axis used o a → LeavesRoom axis k a b → LeavesRoom axis (used + k) o b
  leaves_then axis used k o a b first second more room =
      let same : more + (used + k) ≡ more + k + used = omega arith in
      second more (first (more + k) (subst (λ m. HasRoomAlong axis m o) same room))

  -- readiness and room, however the array lay at first
  pub still_then : (axis k : ℕ) (a b : ArrayBase (OwnedRepr A) D T A R s d n r t) → axis < length (shape_of a) → shape_of b ≡ grown_shape (shape_of a) axis k → BecomesReady axis k a b → (IsReadyAlong axis a → GoesOn axis a b) → NeedsNoMove axis a → NeedsNoMove axis b
  still_then axis k a b on shape ready goes (inr can) = needs_no_move axis b (goes (can.0, inr can.1)).grows_on
  still_then axis k a b on shape ready goes (inl none) =
      ⊎_elim
      (λ (zero : added_elements (shape_of a) axis k ≡ 0).
      let whole = size_of-set (shape_of a) axis (get_or (shape_of a) axis 0 + k) on in
      let old : size_of (shape_of a) ≡ get_or (shape_of a) axis 0 * size_of (remove (shape_of a) axis) = size_of-removed (shape_of a) axis on in
      inl (ap size_of shape ∙ omega (arith, whole, old, none, zero)))
      (λ (some : added_elements (shape_of a) axis k ≡ 0 → ⊥). needs_no_move axis b (ready (omega (arith, some))))
      (cases_eq (added_elements (shape_of a) axis k) 0)

  pub ready_then : (axis taken k : ℕ) (o a b : ArrayBase (OwnedRepr A) D T A R s d n r t) → shape_of a ≡ grown_shape (shape_of o) axis taken → BecomesReady axis taken o a → BecomesReady axis k a b → (IsReadyAlong axis a → GoesOn axis a b) → BecomesReady axis (taken + k) o b
  ready_then axis taken k o a b shape first second goes some =
      let later = added_twice (shape_of o) (shape_of a) axis taken k shape in
      ⊎_elim
      (λ (zero : added_elements (shape_of a) axis k ≡ 0). (goes (first (omega (arith, later, zero, some)))).grows_on)
      (λ (more : added_elements (shape_of a) axis k ≡ 0 → ⊥). second (omega (arith, more)))
      (cases_eq (added_elements (shape_of a) axis k) 0)

  pub room_then : (axis taken k total : ℕ) (o a b : ArrayBase (OwnedRepr A) D T A R s d n r t) → shape_of a ≡ grown_shape (shape_of o) axis taken → k ≤ total → KeepsRoom axis total o a → (NeedsNoMove axis o → NeedsNoMove axis a) → KeepsRoom axis k a b → KeepsRoom axis total o b
  room_then axis taken k total o a b shape within first still second calm =
      let before = first calm in
      let after = second (⊎_elim (λ (none : added_elements (shape_of o) axis total ≡ 0). inl (few none)) (λ (here : NeedsNoMove axis o). inr (still here)) calm) in
      omega (arith, before, after)
    where
      few : added_elements (shape_of o) axis total ≡ 0 → added_elements (shape_of a) axis k ≡ 0
      few none =
          let later = added_twice (shape_of o) (shape_of a) axis taken k shape in
          let less = mul-le-mul_right {m = k} {n = total} (size_of (remove (shape_of o) axis)) within in
          omega (arith, later, less, none)

  -- one more after those of a list
  pub grown_last : (axis : ℕ) (ms : List (Meaning A)) (m : Meaning A) (o a b : ArrayBase (OwnedRepr A) D T A R s d n r t) → IsGrownInTurn axis ms o a → shape_of b ≡ grown_shape (shape_of a) axis (get_or m.shape axis 0) → IsGrownBy axis (get_or m.shape axis 0) a b → IsGrownInTurn axis (ms ++ m ∷ []) o b
  grown_last axis [] m o a b before shape laid = subst (λ c. IsGrownInTurn axis (m ∷ []) c b) before (b, shape, laid, refl)
  grown_last axis (k ∷ ks) m o a b before shape laid = (before.0, before.1, before.2, grown_last axis ks m before.0 a b before.3 shape laid)

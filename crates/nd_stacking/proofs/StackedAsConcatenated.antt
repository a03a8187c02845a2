-- Arrays of one shape with an axis of length 1 put in, as arrays that fit after one another.
use Rattle.std.proofs.Common.{◌≡◌, ℕ, ◌+◌, ◌<◌, ◌≤◌, ◌^◌, Bool, true, false, cond, leb, List, [], ◌∷◌, length, get_or, set, map, None, Some, refl, ap, sym, subst, ◌∙◌, arith}
use Rattle.std.specs.Prelude.{◌&&◌, nat_eq, slice_get}
use Rattle.std.specs.List.{insert, list_all}
use Rattle.std.specs.Cmp.{unsigned_Decides}
use Rattle.std.specs.Cmp.Lexicographic.{pointwise}
use Rattle.std.proofs.lemmas.Bool.{lt-ltb, le-leb, leb-true, and_parts, lt-leb}
use Rattle.std.proofs.lemmas.List.Edits.{get_or-insert_at, length-insert}
use Rattle.std.proofs.lemmas.List.Sums.{sum_by-cons}
use Rattle.std.proofs.lemmas.Slice.Eq.{slice_eq-Decides}
use Rattle.nd_shape_and_slice.specs.ShapesAndIndexOrders.{HasCheckedSize, nonzero_product}
use Rattle.nd_shape_and_slice.specs.LayoutIndexMaps.{inserted_index, inserted_shape}
use Rattle.nd_shape_and_slice.specs.declared.errors.ErrorKind.TheVariants.{IncompatibleShape, OutOfBounds, Overflow}
use Rattle.nd_shape_and_slice.proofs.ListEdits.{set-inserted}
use Rattle.nd_array_core.specs.LayoutLaws.{with_axis_inserted}
use Rattle.nd_array_core.specs.ArrayMeaning.{Meaning}
use Rattle.nd_array_core.specs.growth.AppendEach.{lengths_along, ClonesOfEachAreEqual}
use Rattle.nd_array_core.proofs.elements_lemmas.LackOfMemory.{inside_some}
use Rattle.nd_stacking.specs.ConcatenateAndStack.{concatenation_shape, is_checked_size, is_alike_but, stack_refusal, AreLengthsTogether, MayHaveAnotherAxis}
use Rattle.nd_stacking.proofs.ConcatenationShapeChecks.{all_pass, cause, false_from_not, mapped_back, passed}

-- a test that holds of equal lists
pub same_passes : (ns ms : List ℕ) → ns ≡ ms → pointwise nat_eq ns ms ≡ true
same_passes ns ms e = (slice_eq-Decides unsigned_Decides ns ms (pointwise nat_eq ns ms) refl).1 e

same_shape : (ns ms : List ℕ) → pointwise nat_eq ns ms ≡ true → ns ≡ ms
same_shape ns ms e = (slice_eq-Decides unsigned_Decides ns ms (pointwise nat_eq ns ms) refl).0 e

module _ {A : Type 0} (axis : ℕ) where
  inserted_alike : (shape : List ℕ) (ms : List (Meaning A)) → axis ≤ length shape → list_all (λ n. pointwise nat_eq n.shape shape) ms ≡ true
      → list_all (λ n. is_alike_but axis (insert shape axis 1) n.shape) (map (with_axis_inserted axis) ms) ≡ true
  inserted_alike shape [] within all = refl
  inserted_alike shape (m ∷ ms) within all =
      let here = and_parts (pointwise nat_eq m.shape shape) (list_all (λ n. pointwise nat_eq n.shape shape) ms) all in
      let same = same_shape m.shape shape here.0 in
      let one = get_or-insert_at shape axis 1 0 within in
      let first : is_alike_but axis (insert shape axis 1) (insert m.shape axis 1) ≡ true =
      same_passes (set (insert m.shape axis 1) axis (get_or (insert shape axis 1) axis 0)) (insert shape axis 1)
      (ap (λ s. set (insert s axis 1) axis (get_or (insert shape axis 1) axis 0)) same ∙ (ap (set (insert shape axis 1) axis) one ∙ set-inserted shape axis 1 1 within)) in
      ap (λ b. b && list_all (λ n. is_alike_but axis (insert shape axis 1) n.shape) (map (with_axis_inserted axis) ms)) first ∙ inserted_alike shape ms within here.1

  inserted_count : (shape : List ℕ) (ms : List (Meaning A)) → axis ≤ length shape → list_all (λ n. pointwise nat_eq n.shape shape) ms ≡ true
      → lengths_along axis (map (with_axis_inserted axis) ms) ≡ length ms
  inserted_count shape [] within all = refl
  inserted_count shape (m ∷ ms) within all =
      let here = and_parts (pointwise nat_eq m.shape shape) (list_all (λ n. pointwise nat_eq n.shape shape) ms) all in
      let same = same_shape m.shape shape here.0 in
      let one : get_or (insert m.shape axis 1) axis 0 ≡ 1 = ap (λ s. get_or (insert s axis 1) axis 0) same ∙ get_or-insert_at shape axis 1 0 within in
      let rest = inserted_count shape ms within here.1 in
      sum_by-cons (λ n. get_or n.shape axis 0) (with_axis_inserted axis m) (map (with_axis_inserted axis) ms) ∙ omega (arith, one, rest)

  -- the lengths of the stack, of arrays that pass the tests
  pub stacked_lengths : (m : Meaning A) (ms : List (Meaning A)) (lengths : List ℕ) → axis ≤ length m.shape → list_all (λ n. pointwise nat_eq n.shape m.shape) (m ∷ ms) ≡ true
      → lengths ≡ set (insert m.shape axis 1) axis (length (m ∷ ms)) → HasCheckedSize lengths → AreLengthsTogether axis (map (with_axis_inserted axis) (m ∷ ms)) lengths
  stacked_lengths m ms lengths within all is checked =
      let wide = length-insert m.shape axis 1 within in
      let on : axis < length (insert m.shape axis 1) = omega (arith, wide, within) in
      let shape : lengths ≡ concatenation_shape axis (map (with_axis_inserted axis) (m ∷ ms)) = is ∙ sym (ap (set (insert m.shape axis 1) axis) (inserted_count m.shape (m ∷ ms) within all)) in (
        ap (λ t. cause t (list_all (λ n. is_alike_but axis (insert m.shape axis 1) n.shape) (map (with_axis_inserted axis) (m ∷ ms))) (is_checked_size (concatenation_shape axis (map (with_axis_inserted axis) (m ∷ ms))))) (lt-ltb axis (length (insert m.shape axis 1)) on)
            ∙ (ap (λ t. cause true t (is_checked_size (concatenation_shape axis (map (with_axis_inserted axis) (m ∷ ms))))) (inserted_alike m.shape (m ∷ ms) within all)
            ∙ ap (cause true true) (lt-ltb (nonzero_product (concatenation_shape axis (map (with_axis_inserted axis) (m ∷ ms)))) (2 ^ 63) (subst HasCheckedSize shape checked))),
        shape,
      )

-- ---- the first array of a list, and what is against its stack
module _ {A : Type 0} (axis : ℕ) where
  first_shape : (k : Meaning A) (ks : List (Meaning A)) (m : Meaning A) (s : List ℕ) → slice_get (k ∷ ks) 0 ≡ Some m → s ≡ m.shape → s ≡ k.shape
  first_shape k ks m s at is = let e : k ≡ m = cc in is ∙ ap (λ z. z.shape) (sym e)

  pub no_place : (ms : List (Meaning A)) (m : Meaning A) (s : List ℕ) → slice_get ms 0 ≡ Some m → s ≡ m.shape → length s < axis → stack_refusal axis ms ≡ Some OutOfBounds
  no_place [] m s at is above = absurd cc
  no_place (k ∷ ks) m s at is above =
      let same = first_shape k ks m s at is in
      ap (λ t. cause t (list_all (λ n. pointwise nat_eq n.shape k.shape) (k ∷ ks)) (is_checked_size (insert k.shape axis (length (k ∷ ks))))) (lt-leb axis (length k.shape) (subst (λ l. length l < axis) same above))

  pub other_shape : (ms : List (Meaning A)) (m : Meaning A) (s : List ℕ) → slice_get ms 0 ≡ Some m → s ≡ m.shape → axis ≤ length s → list_all (λ n. pointwise nat_eq n.shape s) ms ≡ false → stack_refusal axis ms ≡ Some IncompatibleShape
  other_shape [] m s at is within other = absurd cc
  other_shape (k ∷ ks) m s at is within other =
      let same = first_shape k ks m s at is in
      ap (λ t. cause t (list_all (λ n. pointwise nat_eq n.shape k.shape) (k ∷ ks)) (is_checked_size (insert k.shape axis (length (k ∷ ks))))) (le-leb axis (length k.shape) (subst (λ l. axis ≤ length l) same within))
      ∙ ap (λ t. cause true t (is_checked_size (insert k.shape axis (length (k ∷ ks))))) (subst (λ l. list_all (λ n. pointwise nat_eq n.shape l) (k ∷ ks) ≡ false) same other)

  -- arrays that pass the tests, up to the size
  passing : (ms : List (Meaning A)) (m : Meaning A) (s : List ℕ) (t : Bool) → slice_get ms 0 ≡ Some m → s ≡ m.shape → axis ≤ length s → list_all (λ n. pointwise nat_eq n.shape s) ms ≡ true
      → is_checked_size (set (insert s axis 1) axis (length ms)) ≡ t → stack_refusal axis ms ≡ cond t None (Some Overflow)
  passing [] m s t at is within all size = absurd cc
  passing (k ∷ ks) m s t at is within all size =
      let same = first_shape k ks m s at is in
      let wide : axis ≤ length k.shape = subst (λ l. axis ≤ length l) same within in
      ap (λ t. cause t (list_all (λ n. pointwise nat_eq n.shape k.shape) (k ∷ ks)) (is_checked_size (insert k.shape axis (length (k ∷ ks))))) (le-leb axis (length k.shape) wide)
      ∙ (ap (λ t. cause true t (is_checked_size (insert k.shape axis (length (k ∷ ks))))) (subst (λ l. list_all (λ n. pointwise nat_eq n.shape l) (k ∷ ks) ≡ true) same all)
      ∙ ap (cause true true) (ap is_checked_size (sym (ap (λ l. set (insert l axis 1) axis (length (k ∷ ks))) same ∙ set-inserted k.shape axis 1 (length (k ∷ ks)) wide)) ∙ size))

  pub stack_fits : (ms : List (Meaning A)) (m : Meaning A) (s ls : List ℕ) → slice_get ms 0 ≡ Some m → s ≡ m.shape → axis ≤ length s → list_all (λ n. pointwise nat_eq n.shape s) ms ≡ true
      → ls ≡ set (insert s axis 1) axis (length ms) → HasCheckedSize ls → stack_refusal axis ms ≡ None
  stack_fits ms m s ls at is within all are checked =
      passing ms m s true at is within all (ap is_checked_size (sym are) ∙ lt-ltb (nonzero_product ls) (2 ^ 63) checked)

  pub stack_too_large : (ms : List (Meaning A)) (m : Meaning A) (s ls : List ℕ) → slice_get ms 0 ≡ Some m → s ≡ m.shape → axis ≤ length s → list_all (λ n. pointwise nat_eq n.shape s) ms ≡ true
      → ls ≡ set (insert s axis 1) axis (length ms) → (HasCheckedSize ls → ⊥) → stack_refusal axis ms ≡ Some Overflow
  stack_too_large ms m s ls at is within all are large =
      passing ms m s false at is within all (ap is_checked_size (sym are) ∙ false_from_not (nonzero_product ls) (2 ^ 63) large)

  pub stack_lengths : (ms : List (Meaning A)) (m : Meaning A) (s ls : List ℕ) → slice_get ms 0 ≡ Some m → s ≡ m.shape → axis ≤ length s → list_all (λ n. pointwise nat_eq n.shape s) ms ≡ true
      → ls ≡ set (insert s axis 1) axis (length ms) → HasCheckedSize ls → AreLengthsTogether axis (map (with_axis_inserted axis) ms) ls
  stack_lengths [] m s ls at is within all are checked = absurd cc
  stack_lengths (k ∷ ks) m s ls at is within all are checked =
      let same = first_shape k ks m s at is in
      stacked_lengths axis k ks ls (subst (λ l. axis ≤ length l) same within) (subst (λ l. list_all (λ n. pointwise nat_eq n.shape l) (k ∷ ks) ≡ true) same all) (are ∙ ap (λ l. set (insert l axis 1) axis (length (k ∷ ks))) same) checked

  -- ---- what follows of each array where nothing is against the stack
  -- each has the shape of the first
  pub shapes_equal : (k : Meaning A) (ks : List (Meaning A)) → stack_refusal axis (k ∷ ks) ≡ None → (axis ≤ length k.shape) × ((nth : ℕ) (m : Meaning A) → slice_get (k ∷ ks) nth ≡ Some m → m.shape ≡ k.shape)
  shapes_equal k ks e =
      let on = passed (leb axis (length k.shape)) OutOfBounds _ e in
      let all = passed (list_all (λ n. pointwise nat_eq n.shape k.shape) (k ∷ ks)) IncompatibleShape _ on.1 in
      (leb-true axis (length k.shape) on.0, λ nth m at. same_shape m.shape k.shape (all_pass (λ n. pointwise nat_eq n.shape k.shape) (k ∷ ks) nth m all.0 at))

  pub has_place : (ms : List (Meaning A)) → stack_refusal axis ms ≡ None → (nth : ℕ) (m : Meaning A) → slice_get ms nth ≡ Some m → axis ≤ length m.shape
  has_place [] e nth m at = absurd cc
  has_place (k ∷ ks) e nth m at = let s = shapes_equal k ks e in subst (λ l. axis ≤ length l) (sym (s.1 nth m at)) s.0

  pub has_room : (has : ℕ → Bool) (ms : List (Meaning A)) → stack_refusal axis ms ≡ None → MayHaveAnotherAxis has ms → (nth : ℕ) (m : Meaning A) → slice_get ms nth ≡ Some m → has (length m.shape + 1) ≡ true
  has_room has [] e room nth m at = absurd cc
  has_room has (k ∷ ks) e room nth m at = let s = shapes_equal k ks e in subst (λ l. has (length l + 1) ≡ true) (sym (s.1 nth m at)) (room k refl)

  -- ---- the arrays with an axis put in
  pub clones_inserted : (is_clone : A → A → Type 0) (ms ns : List (Meaning A)) → ns ≡ map (with_axis_inserted axis) ms → ClonesOfEachAreEqual is_clone ms → ClonesOfEachAreEqual is_clone ns
  clones_inserted is_clone ms ns are clones nth n at i x there copy made =
      let k = mapped_back (with_axis_inserted axis) ms nth n (ap (λ l. slice_get l nth) (sym are) ∙ at) in
      let seen : (with_axis_inserted axis k.0).at i ≡ Some x = ap (λ z. z.at i) (sym k.2) ∙ there in
      clones nth k.0 k.1 (inserted_index axis i) x (inside_some (inserted_shape k.0.shape axis) i (k.0.at (inserted_index axis i)) x seen) copy made

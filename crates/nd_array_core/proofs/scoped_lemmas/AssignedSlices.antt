-- A part that a list of slices names, written through a view of it: the same by index of the array.
use Rattle.nd_array_core.proofs.NamesFromOtherCrates.{◌≡◌, ◌⊎◌, inl, inr, ◌∙◌, ap, sym, subst, refl, ℕ, zero, suc, ◌+◌, ◌-◌, ◌*◌, ◌/◌, ◌<◌, true, List, [], ◌∷◌, arith, fun_ext, mul-div_left, Option, ℤ, pos, negsuc, nat_le, option_map, MutBor, Mut, and_parts, SliceInfoElem, Index, NewAxis, Slice, in_box, fits_axis, sliced_length, sliced_from, low_of, high_of, coordinate_on, fits_shape, each_fits, axes_kept, shape_after, index_before, names_index, in_box-cons, range_above, inside, IsOldOrOf, ChangeableInAnyOrder, ChangesAll, ChangesAlike, ChangesBy}
use Rattle.std.specs.Option.{is_some}
use Rattle.nd_shape_and_slice.specs.declared.slice_info.SliceInfoElem.TheVariants.{Slice as Part}
use Rattle.nd_shape_and_slice.proofs.IndexInSlicesTest.{named_by}
use Rattle.nd_array_core.specs.ArrayInStorage.{PlacedArray, element_placed}
use Rattle.nd_array_core.specs.scoped.ViewTasks.{IsViewThrough}
use Rattle.nd_array_core.specs.scoped.AssignedOrChangedParts.{coordinate_after, index_after}

-- ---- the index of a part that stands for one of the array
abbrev by_step : ℤ → Option ℤ → ℤ → Slice
by_step start end step = record { start = start; end = end; step = step }

whole_steps : (d t x : ℕ) → x ≡ t * suc d → x / suc d ≡ t
whole_steps d t x e = ap (λ y. y / suc d) e ∙ mul-div_left t {n = suc d} (omega arith)

coordinate_back : (n : ℕ) (start : ℤ) (end : Option ℤ) (step : ℤ) (t : ℕ) → fits_axis n (by_step start end step) ≡ true → t < sliced_length n (by_step start end step)
    → coordinate_after step (low_of n (by_step start end step)) (high_of n (by_step start end step)) (sliced_from n (by_step start end step) t) ≡ t
coordinate_back n start end (pos zero) t fits h = absurd cc
coordinate_back n start end (pos (suc zero)) t fits h = omega arith
coordinate_back n start end (pos (suc (suc k))) t fits h =
    let s = by_step start end (pos (suc (suc k))) in
    whole_steps (suc k) t (low_of n s + t * suc (suc k) - low_of n s) (omega arith)
coordinate_back n start end (negsuc d) t fits h =
    let s = by_step start end (negsuc d) in
    let below : t * suc d < high_of n s - low_of n s = range_above (high_of n s - low_of n s) d t h in
    whole_steps d t (high_of n s - 1 - (high_of n s - 1 - t * suc d)) (omega (arith, below))

pub after_before : (ns : List ℕ) (es : List SliceInfoElem) (i : List ℕ) → each_fits ns es ≡ true → in_box (shape_after ns es) i ≡ true → index_after ns es (index_before ns es i) ≡ i
after_before [] [] [] fits within = refl
after_before [] [] (i ∷ is) fits within = absurd cc
after_before (n ∷ ns) [] i fits within = absurd cc
after_before [] (Part start end step ∷ es) i fits within = absurd cc
after_before (n ∷ ns) (Part start end step ∷ es) [] fits within = absurd cc
after_before (n ∷ ns) (Part start end step ∷ es) (i ∷ is) fits within =
    let f = and_parts (fits_axis n (by_step start end step)) (each_fits ns es) fits in
    let w = in_box-cons (sliced_length n (by_step start end step)) (shape_after ns es) i is within in
    (λ k. coordinate_back n start end step i f.0 w.0 k ∷ after_before ns es is f.1 w.1 k)
after_before [] (Index c ∷ es) i fits within = absurd cc
after_before (n ∷ ns) (Index c ∷ es) i fits within =
    let f = and_parts (is_some (coordinate_on n c)) (each_fits ns es) fits in
    after_before ns es i f.1 within
after_before [] (NewAxis ∷ es) [] fits within = absurd cc
after_before [] (NewAxis ∷ es) (i ∷ is) fits within =
    let w = in_box-cons 1 (shape_after [] es) i is within in
    let first : 0 ≡ i = omega (arith, w.0) in
    (λ k. first k ∷ after_before [] es is fits w.1 k)
after_before (n ∷ ns) (NewAxis ∷ es) [] fits within = absurd cc
after_before (n ∷ ns) (NewAxis ∷ es) (i ∷ is) fits within =
    let w = in_box-cons 1 (shape_after (n ∷ ns) es) i is within in
    let first : 0 ≡ i = omega (arith, w.0) in
    (λ k. first k ∷ after_before (n ∷ ns) es is fits w.1 k)

-- ---- what stands at each index of the part, by index of the array
each_of : (ns : List ℕ) (es : List SliceInfoElem) → fits_shape ns es ≡ true → each_fits ns es ≡ true
each_of ns es fits = (and_parts (each_fits ns es) (nat_le (axes_kept es) 32) fits).0

pub named_assigned : {A : Type 0} (ns : List ℕ) (es : List SliceInfoElem) → fits_shape ns es ≡ true → (new other : List ℕ → Option A) → ((i : List ℕ) → in_box (shape_after ns es) i ≡ true → new (index_before ns es i) ≡ other i)
    → (j : List ℕ) → in_box ns j ≡ true → names_index ns es j ≡ true → new j ≡ other (index_after ns es j)
named_assigned ns es fits new other assigned j within e =
    let i = named_by ns es j (each_of ns es fits) within e in
    ap new (sym i.2) ∙ assigned i.0 i.1 ∙ ap other (sym (after_before ns es i.0 (each_of ns es fits) i.1) ∙ ap (index_after ns es) i.2)

-- ---- a view of the part
-- one of two equations, of other sides that are the same
either_as : {X : Type 0} {n n' o o' b b' : X} → n ≡ n' → o ≡ o' → b ≡ b' → (n ≡ o) ⊎ (n ≡ b) → (n' ≡ o') ⊎ (n' ≡ b')
either_as {X} {n} {n'} {o} {o'} {b} {b'} en eo eb (inl same) = inl (sym en ∙ same ∙ eo)
either_as {X} {n} {n'} {o} {o'} {b} {b'} en eo eb (inr same) = inr (sym en ∙ same ∙ eb)

pub old_or_as : {A : Type 0} (old old' given given' new new' : List ℕ → Option A) → ((i : List ℕ) → new i ≡ new' i) → ((i : List ℕ) → old i ≡ old' i) → ((i : List ℕ) → given i ≡ given' i) → IsOldOrOf old given new → IsOldOrOf old' given' new'
old_or_as old old' given given' new new' news olds givens some i = either_as (news i) (olds i) (givens i) (some i)

module _ {A : Type 0} (shape : List ℕ) (source : List ℕ → List ℕ) (places : List ℕ → Option ℕ) (at : List ℕ → Option A) (v : PlacedArray A) (seen : IsViewThrough shape source places at v) where
  at_source : (i : List ℕ) → in_box shape i ≡ true → at (source i) ≡ element_placed v i
  at_source i within = sym (seen.same_element i ∙ rw within refl)

module _ {A : Type 0} (shape : List ℕ) (source : List ℕ → List ℕ) (p q : List ℕ → Option ℕ) (old new : List ℕ → Option A) (v w : PlacedArray A) (seen : IsViewThrough shape source p old v) (left : IsViewThrough shape source q new w) where
  module _ (given other : List ℕ → Option A) (same : (i : List ℕ) → given i ≡ other i) where
    pub part_assigned : ((i : List ℕ) → element_placed w i ≡ given i) → (i : List ℕ) → in_box shape i ≡ true → new (source i) ≡ other i
    part_assigned assigned i within = at_source shape source q new w left i within ∙ assigned i ∙ same i

    pub part_stopped : IsOldOrOf (element_placed v) given (element_placed w) → (i : List ℕ) → in_box shape i ≡ true → (new (source i) ≡ old (source i)) ⊎ (new (source i) ≡ other i)
    part_stopped stopped i within = either_as (sym (at_source shape source q new w left i within)) (sym (at_source shape source p old v seen i within)) (same i) (stopped i)

-- ---- a closure over a view of the part
module _ {F A : Type 0} (g : Mut F (MutBor A × Unit {0}) (Unit {0} × (MutBor A × Unit {0}))) (f : F) where
  pub changeable_as : (ns ms : List ℕ) (at to : List ℕ → Option A) → ns ≡ ms → ((i : List ℕ) → at i ≡ to i) → ChangeableInAnyOrder g ms to f → ChangeableInAnyOrder g ns at f
  changeable_as ns ms at to shapes ats can =
      subst (λ ls. ChangeableInAnyOrder g ls at f) (sym shapes)
      (subst (λ (given : List ℕ → Option A). ChangeableInAnyOrder g ms given f) (sym (fun_ext ats)) can)

  pub changes_as : (ns ms : List ℕ) (at to new left : List ℕ → Option A) → ns ≡ ms → ((i : List ℕ) → at i ≡ to i) → ((i : List ℕ) → new i ≡ left i) → ChangesAll g ns at new f → ChangesAll g ms to left f
  changes_as ns ms at to new left shapes ats news all =
      subst (λ (given : List ℕ → Option A). ChangesAll g ms to given f) (fun_ext news)
      (subst (λ (given : List ℕ → Option A). ChangesAll g ms given new f) (fun_ext ats)
      (subst (λ ls. ChangesAll g ls at new f) shapes all))

  module _ (shape : List ℕ) (source : List ℕ → List ℕ) where
    abbrev shown : (List ℕ → Option A) → List ℕ → Option A
    shown at i = inside shape i (at (source i))

    pub part_changeable : (p : List ℕ → Option ℕ) (old : List ℕ → Option A) (v : PlacedArray A) → IsViewThrough shape source p old v → ChangeableInAnyOrder g shape (shown old) f → ChangeableInAnyOrder g v.placed_shape (element_placed v) f
    part_changeable p old v seen can = changeable_as v.placed_shape shape (element_placed v) (shown old) seen.same_shape seen.same_element can

    pub part_changes : (p q : List ℕ → Option ℕ) (old new : List ℕ → Option A) (v w : PlacedArray A) → IsViewThrough shape source p old v → IsViewThrough shape source q new w → ChangesAll g v.placed_shape (element_placed v) (element_placed w) f → ChangesAll g shape (shown old) (shown new) f
    part_changes p q old new v w seen left all = changes_as v.placed_shape shape (element_placed v) (shown old) (element_placed w) (shown new) seen.same_shape seen.same_element left.same_element all

  pub named_changed : (ns : List ℕ) (es : List SliceInfoElem) → fits_shape ns es ≡ true → (p q : List ℕ → Option ℕ) (old new : List ℕ → Option A) (v w : PlacedArray A)
      → IsViewThrough (shape_after ns es) (index_before ns es) p old v → IsViewThrough (shape_after ns es) (index_before ns es) q new w → ChangesAlike g f (element_placed v) (element_placed w)
      → (h : A → A) → ChangesBy g h f → (j : List ℕ) → in_box ns j ≡ true → names_index ns es j ≡ true → new j ≡ option_map h (old j)
  named_changed ns es fits p q old new v w seen left alike h by j within e =
      let i = named_by ns es j (each_of ns es fits) within e in
      ap new (sym i.2) ∙ at_source (shape_after ns es) (index_before ns es) q new w left i.0 i.1 ∙ alike h by i.0
      ∙ ap (option_map h) (sym (at_source (shape_after ns es) (index_before ns es) p old v seen i.0 i.1) ∙ ap old i.2)

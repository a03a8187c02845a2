-- How an owned array lies once another has come after it: the case that applies, and what it says.
use Rattle.nd_array_core.proofs.NamesFromOtherCrates.{◌≡◌, ℕ, zero, suc, ◌⊎◌, ⊎_elim, inl, inr, ◌+◌, ◌*◌, ◌<◌, ◌≤◌, Bool, true, false, not, ◌||◌, cond, eqb, leb, List, [], ◌∷◌, ◌++◌, length, get_or, set, replicate, refl, ap, sym, subst, ◌∙◌, arith, ℤ, pos, remove, mul-le-mul_right, cases_eq, eq-eqb, ne_eqb, append-nil, length-set, set-get_or, get_or-set_same, nil_from_length, or-true, size_of, place_of, row_strides, column_strides_from, GrowthCase, Empty, Unchanged, Fresh, Moved, After, growing_strides, grown_shape, growth_case, must_move, strides_of_appended, strides_in_case, IsGrown, Placement, as_placement, fresh_ready, others_there, growing_strides-is, base_full, same_placement, size_of-removed, size_of-set, IsFront}
use Rattle.nd_array_core.specs.growth.Append.{IsAlikeOnOtherAxes}
use Rattle.nd_array_core.specs.growth.StorageOfAppend.{case_under, offset_in_case, GoesOnUnder, IsLaidInCase, IsReadyUnder, IsStoredInCase}
use Rattle.nd_array_core.specs.growth.ReservedAlongAxis.{added_elements}
use Rattle.nd_array_core.proofs.growth_lemmas.AppendInFilledStorage.{first_none, fits_axis, fits_back, fits_more, fits_size, no_index}

-- ---- which case it is
abbrev choice : Bool → Bool → Bool → Bool → GrowthCase
choice empty nothing fresh moves = cond empty Empty (cond nothing Unchanged (cond fresh Fresh (cond moves Moved After)))

not_none : (n : ℕ) → 0 < n → eqb n 0 ≡ false
not_none n some = ne_eqb n 0 (λ e. omega arith)

module _ (ns : List ℕ) (ss : List ℤ) (full : Bool) (a added : ℕ) where
  abbrev grown_size : ℕ
  grown_size = size_of (grown_shape ns a added)

  pub case_empty : size_of (grown_shape ns a added) ≡ 0 → growth_case ns ss full a added ≡ Empty
  case_empty none = λ k. choice (eq-eqb grown_size 0 none k) (eqb added 0) (eqb (size_of ns) 0) (not full || must_move ns ss a)

  pub case_same : 0 < size_of (grown_shape ns a added) → added ≡ 0 → growth_case ns ss full a added ≡ Unchanged
  case_same some none = λ k. choice (not_none grown_size some k) (eq-eqb added 0 none k) (eqb (size_of ns) 0) (not full || must_move ns ss a)

  pub case_fresh : 0 < size_of (grown_shape ns a added) → 0 < added → size_of ns ≡ 0 → growth_case ns ss full a added ≡ Fresh
  case_fresh some more none = λ k. choice (not_none grown_size some k) (not_none added more k) (eq-eqb (size_of ns) 0 none k) (not full || must_move ns ss a)

  pub case_of : (b : Bool) → 0 < size_of (grown_shape ns a added) → 0 < added → 0 < size_of ns → (not full || must_move ns ss a) ≡ b → growth_case ns ss full a added ≡ cond b Moved After
  case_of b some more there moves = λ k. choice (not_none grown_size some k) (not_none added more k) (not_none (size_of ns) there k) (moves k)

-- more lengths of an array that has elements
pub grown_some : (ns : List ℕ) (a added : ℕ) → a < length ns → 0 < size_of ns → 0 < size_of (grown_shape ns a added)
grown_some ns a added on some =
    let whole = size_of-set ns a (get_or ns a 0 + added) on in
    let old : size_of ns ≡ get_or ns a 0 * size_of (remove ns a) = size_of-removed ns a on in
    omega (arith, whole, old, some)

-- ---- fresh strides stay as they are when the axis grows on
growing_kept : (ns : List ℕ) (a : ℕ) → a < length ns → 0 < size_of (set ns a 1) → set (growing_strides a ns) a (pos (size_of (set ns a 1))) ≡ growing_strides a ns
growing_kept ns a on others =
    let os = set ns a 1 in
    let base = cond (eqb (a + 1) (length ns)) (column_strides_from 1 os) (row_strides os) in
    let is = growing_strides-is a ns on in
    let wide : a < length base = let w = base_full (eqb (a + 1) (length ns)) os others in let l = w.0 in let q = length-set ns a 1 in omega (arith, l, q, on) in
    let at : get_or (growing_strides a ns) a (pos 0) ≡ pos (size_of os) = ap (λ ts. get_or ts a (pos 0)) is ∙ get_or-set_same base a (pos (size_of os)) (pos 0) wide in
    ap (set (growing_strides a ns) a) (sym at) ∙ set-get_or (growing_strides a ns) a (pos 0)

pub growing_again : (ns : List ℕ) (a : ℕ) → a < length ns → 0 < size_of ns → strides_of_appended ns (growing_strides a ns) a ≡ growing_strides a ns
growing_again ns a on some =
    ap (λ n. set (growing_strides a ns) a (pos n)) (let o = size_of-set ns a 1 on in omega arith)
    ∙ growing_kept ns a on (others_there ns a on some)

-- ---- how it lies in a case
laid_in : {A : Type 0} (kind : GrowthCase) (axis added : ℕ) (l m : Placement) (old new : List A) → case_under axis added l old ≡ kind → m.strides ≡ strides_in_case kind l.lengths l.strides axis added → m.offset ≡ offset_in_case kind l.offset → IsStoredInCase kind m old new → IsLaidInCase axis added l old m new
laid_in kind axis added l m old new is strides offset stored = record {
  strides_are = strides ∙ ap (λ c. strides_in_case c l.lengths l.strides axis added) (sym is);
  offset_is = offset ∙ ap (λ c. offset_in_case c l.offset) (sym is);
  stored = subst (λ c. IsStoredInCase c m old new) (sym is) stored;
}

-- ---- where nothing moved
case_after : {A : Type 0} (axis added : ℕ) (l : Placement) (old : List A) → axis < length l.lengths → 0 < size_of l.lengths → 0 < added → length old ≡ size_of l.lengths → must_move l.lengths l.strides axis ≡ false → case_under axis added l old ≡ After
case_after axis added l old on some more full stays =
    ap (λ b. growth_case l.lengths l.strides b axis added) (eq-eqb (length old) (size_of l.lengths) full)
    ∙ case_of l.lengths l.strides true axis added false (grown_some l.lengths axis added on some) more some stays

module _ {A : Type 0} (axis added : ℕ) (l m : Placement) (old new : List A) (on : axis < length l.lengths) (some : 0 < size_of l.lengths) (more : 0 < added) (full : length old ≡ size_of l.lengths) (stays : must_move l.lengths l.strides axis ≡ false) where
  pub laid_after : IsGrown l axis added m → IsFront old new → length new ≡ size_of m.lengths → IsLaidInCase axis added l old m new
  laid_after grown front count = laid_in After axis added l m old new (case_after axis added l old on some more full stays) grown.strides grown.offset (count, front)

pub goes_after : {A : Type 0} (axis added : ℕ) (l m : Placement) (old new : List A) → IsGrown l axis added m → IsFront old new → length new ≡ size_of m.lengths → GoesOnUnder axis l old m new
goes_after axis added l m old new grown front count = record { front = front; places = grown.kept; grows_on = (count, inr grown.ready) }

-- ---- where all was relaid out first
module _ {A : Type 0} (axis added : ℕ) (l k m : Placement) (old items new : List A) (on : axis < length l.lengths) (some : 0 < size_of l.lengths) (more : 0 < added) (offset : k.offset ≡ 0) (lengths : k.lengths ≡ l.lengths) (strides : k.strides ≡ growing_strides axis l.lengths) (count : length items ≡ size_of l.lengths) where
  case_relaid : case_under axis added k items ≡ After
  case_relaid =
      (λ i. growth_case (lengths i) (strides i) (eqb (length items) (size_of (lengths i))) axis added)
      ∙ case_after axis added (as_placement 0 l.lengths (growing_strides axis l.lengths)) items on some more count (fresh_ready l.lengths axis on some)

  pub laid_by_relayout : (not (eqb (length old) (size_of l.lengths)) || must_move l.lengths l.strides axis) ≡ true → IsLaidInCase axis added k items m new → IsLaidInCase axis added l old m new
  laid_by_relayout moves laid =
      laid_in Moved axis added l m old new
      (case_of l.lengths l.strides (eqb (length old) (size_of l.lengths)) axis added true (grown_some l.lengths axis added on some) more some moves)
      (laid.strides_are ∙ ((λ i. strides_in_case (case_relaid i) (lengths i) (strides i) axis added) ∙ growing_again l.lengths axis on some))
      (laid.offset_is ∙ (ap (λ c. offset_in_case c k.offset) case_relaid ∙ offset))
      (subst (λ c. IsStoredInCase c m items new) case_relaid laid.stored).0

-- it had to move
pub moves_by : (n size : ℕ) (b : Bool) → ((n ≡ size) × (b ≡ false) → ⊥) → (not (eqb n size) || b) ≡ true
moves_by n size true not_ready = or-true (not (eqb n size))
moves_by n size false not_ready =
    ⊎_elim
    (λ (same : n ≡ size). absurd (not_ready (same, refl)))
    (λ (other : n ≡ size → ⊥). ap (λ c. not c || false) (ne_eqb n size other))
    (cases_eq n size)

-- ---- where there was no element
module _ {A : Type 0} (axis : ℕ) (l m : Placement) (ms : List ℕ) (old new : List A) (on : axis < length l.lengths) (fits : IsAlikeOnOtherAxes l.lengths ms axis) (none : size_of l.lengths ≡ 0) where
  shape_fresh : 0 < size_of ms → grown_shape l.lengths axis (get_or ms axis 0) ≡ ms
  shape_fresh some =
      let first = first_none l.lengths ms axis on fits none some in
      ap (λ n. set l.lengths axis (n + get_or ms axis 0)) first ∙ (ap (set l.lengths axis) (omega arith) ∙ fits_back l.lengths ms axis on fits)

  pub laid_fresh : 0 < size_of ms → m ≡ as_placement 0 ms (growing_strides axis ms) → length new ≡ 0 + size_of ms → IsLaidInCase axis (get_or ms axis 0) l old m new
  laid_fresh some is count =
      let added = get_or ms axis 0 in
      let whole = shape_fresh some in
      let size : size_of (grown_shape l.lengths axis added) ≡ size_of ms = ap size_of whole in
      let three = case_fresh l.lengths l.strides (eqb (length old) (size_of l.lengths)) axis added (omega (arith, size, some)) (fits_more l.lengths ms axis on fits some) none in
      let lengths : size_of m.lengths ≡ size_of ms = ap (λ p. size_of p.lengths) is in
      laid_in Fresh axis added l m old new three (ap (λ p. p.strides) is ∙ ap (growing_strides axis) (sym whole)) (ap (λ p. p.offset) is) (omega (arith, count, lengths))

  pub ready_fresh : 0 < size_of ms → m ≡ as_placement 0 ms (growing_strides axis ms) → length new ≡ 0 + size_of ms → IsReadyUnder axis m new
  ready_fresh some is count =
      subst (λ p. IsReadyUnder axis p new) (sym is) (omega (arith, count), inr (fresh_ready ms axis (fits_axis l.lengths ms axis on fits) some))

  nothing_first : length old ≡ 0 → IsFront old new
  nothing_first empty = (new, ap (λ xs. xs ++ new) (sym (nil_from_length old empty)))

  pub goes_fresh : IsReadyUnder axis m new → IsReadyUnder axis l old → GoesOnUnder axis l old m new
  goes_fresh after before = record {
    front = nothing_first (before.0 ∙ none);
    places = λ i h. absurd (no_index l.lengths i none h);
    grows_on = after;
  }

-- ---- where nothing came
module _ {A : Type 0} (axis added : ℕ) (l m : Placement) (old new : List A) (same : new ≡ old) (offset : m.offset ≡ l.offset) where
  pub laid_same : 0 < size_of (grown_shape l.lengths axis added) → added ≡ 0 → m.strides ≡ l.strides → IsLaidInCase axis added l old m new
  laid_same some none strides =
      laid_in Unchanged axis added l m old new (case_same l.lengths l.strides (eqb (length old) (size_of l.lengths)) axis added some none) strides offset same

  pub laid_empty : size_of (grown_shape l.lengths axis added) ≡ 0 → m.strides ≡ replicate (length l.lengths) (pos 0) → IsLaidInCase axis added l old m new
  laid_empty none strides =
      laid_in Empty axis added l m old new (case_empty l.lengths l.strides (eqb (length old) (size_of l.lengths)) axis added none) strides offset same

  front_same : IsFront old new
  front_same = ([], same ∙ sym (append-nil old))

  pub goes_empty : size_of l.lengths ≡ 0 → size_of m.lengths ≡ 0 → IsReadyUnder axis l old → GoesOnUnder axis l old m new
  goes_empty none after before = record {
    front = front_same;
    places = λ i h. absurd (no_index l.lengths i none h);
    grows_on = (ap length same ∙ (before.0 ∙ (none ∙ sym after)), inl after);
  }

  pub goes_same : m.lengths ≡ l.lengths → m.strides ≡ l.strides → IsReadyUnder axis l old → GoesOnUnder axis l old m new
  goes_same lengths strides before = record {
    front = front_same;
    places = λ i h k. place_of (offset k) (strides k) i;
    grows_on = subst (λ p. IsReadyUnder axis p new) (sym (same_placement m l offset lengths strides)) (subst (λ xs. IsReadyUnder axis l xs) (sym same) before);
  }

-- as many elements as so many lengths of the axis have
pub added_is : (ns ms : List ℕ) (a : ℕ) → a < length ns → IsAlikeOnOtherAxes ns ms a → size_of ms ≡ added_elements ns a (get_or ms a 0)
added_is ns ms a on fits = sym (ap size_of (fits_back ns ms a on fits)) ∙ size_of-set ns a (get_or ms a 0) on

-- an array that has elements and is ready can grow on
pub can_grow : {A : Type 0} (axis : ℕ) (l : Placement) (items : List A) → 0 < size_of l.lengths → IsReadyUnder axis l items → (length items ≡ size_of l.lengths) × (must_move l.lengths l.strides axis ≡ false)
can_grow axis l items some (full, inl none) = absurd (omega (arith, some, none))
can_grow axis l items some (full, inr stays) = (full, stays)

-- elements have to move, and some come
pub never_calm : {P : Type 0} (ns ms : List ℕ) (a : ℕ) → a < length ns → IsAlikeOnOtherAxes ns ms a → 0 < size_of ns → 0 < size_of ms → (P → ⊥) → (added_elements ns a (get_or ms a 0) ≡ 0) ⊎ ((size_of ns ≡ 0) ⊎ P) → ⊥
never_calm ns ms a on alike some more moves (inl none) = let is = added_is ns ms a on alike in omega (arith, is, none, more)
never_calm ns ms a on alike some more moves (inr (inl none)) = omega (arith, none, some)
never_calm ns ms a on alike some more moves (inr (inr can)) = moves can

-- ---- room
pub remove_set : (ns : List ℕ) (a x : ℕ) → remove (set ns a x) a ≡ remove ns a
remove_set [] a x = refl
remove_set (n ∷ ns) zero x = refl
remove_set (n ∷ ns) (suc a) x = ap (λ r. n ∷ r) (remove_set ns a x)

-- what is left of it once others came in
pub room_spared : (ns ms new : List ℕ) (a more before after had has : ℕ) → a < length ns → IsAlikeOnOtherAxes ns ms a → new ≡ grown_shape ns a (get_or ms a 0) → before ≡ size_of ns → after ≡ size_of new → had ≤ has → before + added_elements ns a (more + get_or ms a 0) ≤ had → after + added_elements new a more ≤ has
room_spared ns ms new a more before after had has on fits shape old now no_less enough =
    let size : size_of new ≡ size_of ns + size_of ms = ap size_of shape ∙ fits_size ns ms a on fits in
    let added : size_of ms ≡ get_or ms a 0 * size_of (remove ns a) = added_is ns ms a on fits in
    let rest : more * size_of (remove new a) ≡ more * size_of (remove ns a) = ap (λ r. more * size_of r) (ap (λ s. remove s a) shape ∙ remove_set ns a (get_or ns a 0 + get_or ms a 0)) in
    omega (arith, size, added, rest, old, now, no_less, enough)

-- less room is there too
pub room_within : (ns : List ℕ) (a few many before had : ℕ) → few ≤ many → before + added_elements ns a many ≤ had → before + added_elements ns a few ≤ had
room_within ns a few many before had fewer enough =
    let less = mul-le-mul_right {m = few} {n = many} (size_of (remove ns a)) fewer in
    omega (arith, less, enough)

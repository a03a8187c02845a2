-- The elements of an array whose places are a run, in the order of their places.
use Rattle.nd_array_core.proofs.NamesFromOtherCrates.{◌≡◌, ℕ, ◌+◌, ◌-◌, ◌<◌, ◌≤◌, Bool, true, false, List, length, get_or, ℤ, pos, negsuc, ◌+ℤ◌, neg_ℤ, refl, ap, sym, ◌∙◌, subst, ⊎_elim, arith, fun_ext, ◌⊎◌, Option, Some, None, is_some, slice_get, if◌then◌else◌, unwrap_or, slice_get_within, in_box, size_of, displacement_of, place_of, span_of, IsSeparated, row_rank_below, there_is_some, IsRun, reach_down, same_index, above_low, above_low-is, above_low-lt, each_above_low, from_low, low_room, run_strides, run_span, none_or_some, elements_asked, asked_of_some, inside, ClonesOfAllAreEqual, StoredClonesAreEqual, place_number, stored_at, names_place, HoldsAll, got_item}
use Rattle.nd_array_core.proofs.base_lemmas.StorageHoldsGivenStrides.{given_holds}
use Rattle.nd_array_core.specs.reshape.ElementsAsSlice.{LiesAlong}

-- a number that names a place is none below 0
pub is_number : {A : Type 0} (stored : ℕ → Option A) (z : ℤ) → names_place stored z ≡ true → (p : ℕ) × (z ≡ pos p)
is_number stored (pos p) has = (p, refl)
is_number stored (negsuc p) has = absurd cc

-- asked twice, it is the same
inside_twice : {A : Type 0} (ns i : List ℕ) (o : Option A) → inside ns i (inside ns i o) ≡ inside ns i o
inside_twice ns i o = by_test (in_box ns i)
  where
    by_test : (t : Bool) → (if t then (if t then o else None) else None) ≡ (if t then o else None)
    by_test true = refl
    by_test false = refl

module _ {A : Type 0} (stored : ℕ → Option A) (offset : ℕ) (ns : List ℕ) (ss : List ℤ) (long : length ss ≡ length ns) (holds : HoldsAll stored offset ns ss) where
  abbrev low : ℕ
  low = offset - reach_down ns ss

  abbrev place : List ℕ → Option ℕ
  place i = inside ns i (place_number (place_of offset ss i))

  abbrev at : List ℕ → Option A
  at i = inside ns i (stored_at stored (place_of offset ss i))

  -- where there are elements
  module _ (apart : IsSeparated ns ss) (full : span_of ns ss + 1 ≡ size_of ns) (some : 0 < size_of ns) where
    room : reach_down ns ss ≤ offset
    room =
        let i = each_above_low ns ss long apart full 0 some in
        let p = is_number stored (place_of offset ss i.0) (holds i.0 i.1) in
        low_room offset (reach_down ns ss) p.0 (displacement_of ss i.0) i.2 p.1

    at_place : (i : List ℕ) (k : ℕ) → displacement_of ss i ≡ neg_ℤ (pos (reach_down ns ss)) +ℤ pos k → place_of offset ss i ≡ pos (low + k)
    at_place i k e = from_low offset (reach_down ns ss) k (displacement_of ss i) room e

    full_has : (k : ℕ) → k < size_of ns → is_some (stored (low + k)) ≡ true
    full_has k below =
        let i = each_above_low ns ss long apart full k below in
        ap (names_place stored) (sym (at_place i.0 k i.2)) ∙ holds i.0 i.1

    module _ (xs : List A) (count : length xs ≡ size_of ns) (held : (k : ℕ) (d : A) → k < size_of ns → stored (low + k) ≡ Some (get_or xs k d)) where
      shown : (i : List ℕ) (k : ℕ) → in_box ns i ≡ true → k < size_of ns → place_of offset ss i ≡ pos (low + k) → at i ≡ slice_get xs k
      shown i k h below e = rw (h, e) (sym (got_item xs k (stored (low + k)) (omega (arith, count, below)) (λ d. held k d below)))

      number : (i : List ℕ) (k : ℕ) → in_box ns i ≡ true → place_of offset ss i ≡ pos (low + k) → place i ≡ Some (low + k)
      number i k h e = rw (h, e) refl

      same_number : (i j : List ℕ) → in_box ns i ≡ true → in_box ns j ≡ true → place i ≡ place j → displacement_of ss i ≡ displacement_of ss j
      same_number i j h q same =
          let m = above_low ns ss (displacement_of ss i) in
          let n = above_low ns ss (displacement_of ss j) in
          let one = number i m h (at_place i m (above_low-is ns ss i h)) in
          let other = number j n q (at_place j n (above_low-is ns ss j q)) in
          let equal : low + m ≡ low + n = ap (λ o. unwrap_or o 0) (sym one ∙ same ∙ other) in
          let e : m ≡ n = omega (arith, equal) in
          above_low-is ns ss i h ∙ ap (λ k. neg_ℤ (pos (reach_down ns ss)) +ℤ pos k) e ∙ sym (above_low-is ns ss j q)

      full_lies : LiesAlong ns low place at xs
      full_lies = record {
        count = count;
        within = λ i h.
            let k = above_low ns ss (displacement_of ss i) in
            let e = at_place i k (above_low-is ns ss i h) in
            let below = above_low-lt ns ss i full h in
            (k, below, number i k h e, shown i k h below e);
        each = λ k below.
            let i = each_above_low ns ss long apart full k below in
            let e = at_place i.0 k i.2 in
            (i.0, i.1, number i.0 k i.1 e, shown i.0 k i.1 below e);
        own_places = λ i j h q same. same_index ns ss i j long apart h q (same_number i j h q same);
      }

      -- laid from the lowest place on, a list of the elements shows the same
      full_shifted : (i : List ℕ) → in_box ns i ≡ true → stored_at (slice_get xs) (place_of (reach_down ns ss) ss i) ≡ at i
      full_shifted i h =
          let k = above_low ns ss (displacement_of ss i) in
          let is = above_low-is ns ss i h in
          let below = above_low-lt ns ss i full h in
          let there : pos (reach_down ns ss) +ℤ displacement_of ss i ≡ pos (reach_down ns ss - reach_down ns ss + k) = from_low (reach_down ns ss) (reach_down ns ss) k (displacement_of ss i) (omega arith) is in
          let nothing : reach_down ns ss - reach_down ns ss + k ≡ k = omega arith in
          ap (stored_at (slice_get xs)) (there ∙ ap pos nothing) ∙ sym (shown i k h below (at_place i k is))

  -- and where there is none
  empty_lies : (xs : List A) → length xs ≡ size_of ns → size_of ns ≡ 0 → LiesAlong ns low place at xs
  empty_lies xs count none = record {
    count = count;
    within = λ i h. absurd (omega (arith, none, row_rank_below ns i h));
    each = λ k below. absurd (omega (arith, none, below));
    own_places = λ i j h q same. absurd (omega (arith, none, row_rank_below ns i h));
  }

  module _ (which : (size_of ns ≡ 0) ⊎ IsRun ns ss) where
    pub run_has : (k : ℕ) → k < size_of ns → is_some (stored (low + k)) ≡ true
    run_has k below =
        ⊎_elim
        (λ (none : size_of ns ≡ 0). absurd (omega (arith, none, below)))
        (λ (run : IsRun ns ss).
        let some : 0 < size_of ns = omega (arith, below) in
        full_has (run_strides ns ss long some run) (run_span ns ss long some run) some k below)
        which

    pub run_lies : (xs : List A) → length xs ≡ size_of ns → ((k : ℕ) (d : A) → k < size_of ns → stored (low + k) ≡ Some (get_or xs k d)) → LiesAlong ns low place at xs
    run_lies xs count held =
        none_or_some (LiesAlong ns low place at xs) (size_of ns)
        (λ none. empty_lies xs count none)
        (λ some.
        ⊎_elim
        (λ (none : size_of ns ≡ 0). empty_lies xs count none)
        (λ (run : IsRun ns ss). full_lies (run_strides ns ss long some run) (run_span ns ss long some run) some xs count held)
        which)

    pub run_shifted : (xs : List A) → length xs ≡ size_of ns → ((k : ℕ) (d : A) → k < size_of ns → stored (low + k) ≡ Some (get_or xs k d)) → (i : List ℕ) → inside ns i (stored_at (slice_get xs) (place_of (reach_down ns ss) ss i)) ≡ at i
    run_shifted xs count held i = by_test (in_box ns i) refl
      where
        by_test : (t : Bool) → in_box ns i ≡ t → inside ns i (stored_at (slice_get xs) (place_of (reach_down ns ss) ss i)) ≡ at i
        by_test false out = rw out refl
        by_test true h =
            let some : 0 < size_of ns = omega (arith, row_rank_below ns i h) in
            let same : stored_at (slice_get xs) (place_of (reach_down ns ss) ss i) ≡ at i =
            ⊎_elim
            (λ (none : size_of ns ≡ 0). absurd (omega (arith, none, some)))
            (λ (run : IsRun ns ss). full_shifted (run_strides ns ss long some run) (run_span ns ss long some run) some xs count held i h)
            which in
            ap (inside ns i) same ∙ inside_twice ns i (stored_at stored (place_of offset ss i))

-- two arrays with the same shape, places and elements have the same elements in the order of their places
module _ {A : Type 0} {shape shape' : List ℕ} {first first' : ℕ} {place place' : List ℕ → Option ℕ} {at at' : List ℕ → Option A} {xs : List A} where
  pub lies_alike : shape ≡ shape' → first ≡ first' → ((i : List ℕ) → place i ≡ place' i) → ((i : List ℕ) → at i ≡ at' i) → LiesAlong shape first place at xs → LiesAlong shape' first' place' at' xs
  lies_alike same start places elements lies =
      let one = subst (λ ns. LiesAlong ns first place at xs) same lies in
      let two = subst (λ p. LiesAlong shape' p place at xs) start one in
      let three = subst (λ f. LiesAlong shape' first' f at xs) (fun_ext places) two in
      subst (λ f. LiesAlong shape' first' place' f xs) (fun_ext elements) three

module _ (ns : List ℕ) (ss : List ℤ) (long : length ss ≡ length ns) (which : (size_of ns ≡ 0) ⊎ IsRun ns ss) where
  pub run_apart : 0 < size_of ns → IsSeparated ns ss
  run_apart some = ⊎_elim (λ (none : size_of ns ≡ 0). absurd (omega (arith, none, some))) (λ (run : IsRun ns ss). run_strides ns ss long some run) which

  -- a vector of as many elements as a run has holds one at each place of it, from the lowest on
  pub run_holds : {A : Type 0} (xs : List A) → length xs ≡ size_of ns → HoldsAll (slice_get xs) (reach_down ns ss) ns ss
  run_holds xs count i h =
      let some : 0 < size_of ns = omega (arith, row_rank_below ns i h) in
      let asked : elements_asked ns ss ≡ size_of ns =
      ⊎_elim
      (λ (none : size_of ns ≡ 0). absurd (omega (arith, none, some)))
      (λ (run : IsRun ns ss). asked_of_some ns ss some ∙ run_span ns ss long some run)
      which in
      given_holds (slice_get xs) ns ss (λ p below. there_is_some xs p (omega (arith, below, asked, count))) i h

-- clones of what lies along a list are clones of its items
pub lies_clones : {A : Type 0} {shape : List ℕ} {first : ℕ} {place : List ℕ → Option ℕ} {at : List ℕ → Option A} (is_clone : A → A → Type 0) (xs : List A) → LiesAlong shape first place at xs → ClonesOfAllAreEqual is_clone at → StoredClonesAreEqual is_clone xs
lies_clones {A} {shape} {first} {place} {at} is_clone xs lies equal p x e =
    let below = slice_get_within xs p x e in
    let count = lies.count in
    let i = lies.each p (omega (arith, below, count)) in
    equal i.0 x (i.3 ∙ e)

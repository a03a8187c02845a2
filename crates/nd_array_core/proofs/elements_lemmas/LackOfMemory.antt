-- Which clone may be refused: by rank in a layout, at an index.
use Rattle.nd_array_core.proofs.NamesFromOtherCrates.{◌≡◌, ℕ, ◌<◌, Bool, true, false, List, ℤ, pos, ◌+ℤ◌, refl, sym, ◌∙◌, arith, Option, Some, None, in_box, size_of, index_at, place_of, in_box-index_at, row_rank_below, IsRearranged, IsRejoined, stored_by_rank, inside, stored_at, MayLackBelow, MayLackForClone, MayLackForClones, rearranged_there}
pub use Rattle.nd_elements.proofs.elements_lemmas.EqualInAnyAxisOrder.{inside_some}

module _ {A : Type 0} (is_infallible : A → Type 0) where
  -- of a value for each index, whatever their order
  pub value_refused : (x : A) (first : ℕ) (ns : List ℕ) (ss : List ℤ) (start : ℕ) (ms : List ℕ) (ts : List ℤ) → IsRearranged first ns ss start ms ts → MayLackForClones is_infallible x (size_of ms) → MayLackForClones is_infallible x (size_of ns)
  value_refused x first ns ss start ms ts by refused = let below = row_rank_below ns (by.index_of 0) (by.within 0 refused.0) in (omega (arith, below), refused.1)

  -- of a layout whose axes were joined
  pub joined_refused : (stored : ℕ → Option A) (first : ℕ) (ns : List ℕ) (ss : List ℤ) (start : ℕ) (ms : List ℕ) (ts : List ℤ) → start ≡ first → IsRejoined ns ss ms ts → MayLackBelow is_infallible (stored_by_rank stored start ms ts) (size_of ms) → MayLackForClone is_infallible (λ i. inside ns i (stored_at stored (place_of first ss i)))
  joined_refused stored first ns ss start ms ts same joined refused =
      let rank = refused.0 in
      let below = refused.2 in
      let size = joined.size in
      let under : rank < size_of ns = omega (arith, below, size) in
      let is : stored_by_rank stored start ms ts rank ≡ stored_by_rank stored first ns ss rank = λ k. stored_at stored (pos (same k) +ℤ joined.same rank under k) in
      let there : inside ns (index_at ns rank) (stored_by_rank stored first ns ss rank) ≡ Some refused.1 = rw (in_box-index_at ns rank under) (sym is ∙ refused.3) in
      (index_at ns rank, refused.1, there, refused.4)

  -- of a layout whose places are in another order
  pub rearranged_refused : (stored : ℕ → Option A) (first : ℕ) (ns : List ℕ) (ss : List ℤ) (start : ℕ) (ms : List ℕ) (ts : List ℤ) → IsRearranged first ns ss start ms ts → MayLackBelow is_infallible (stored_by_rank stored start ms ts) (size_of ms) → MayLackForClone is_infallible (λ i. inside ns i (stored_at stored (place_of first ss i)))
  rearranged_refused stored first ns ss start ms ts by refused =
      (by.index_of refused.0, refused.1, sym (rearranged_there stored first ns ss start ms ts by refused.0 refused.2) ∙ refused.3, refused.4)

  -- of arrays with the same elements
  pub refused_alike : (at other : List ℕ → Option A) → ((i : List ℕ) → at i ≡ other i) → MayLackForClone is_infallible at → MayLackForClone is_infallible other
  refused_alike at other same refused = (refused.0, refused.1, sym (same refused.0) ∙ refused.2, refused.3)

  -- of a part
  pub part_refused : (at part : List ℕ → Option A) (ns : List ℕ) (source : List ℕ → List ℕ) → ((i : List ℕ) → part i ≡ inside ns i (at (source i))) → MayLackForClone is_infallible part → MayLackForClone is_infallible at
  part_refused at part ns source is refused =
      (source refused.0, refused.1, inside_some ns refused.0 (at (source refused.0)) refused.1 (sym (is refused.0) ∙ refused.2), refused.3)

  -- there is an element then
  pub refused_some : (stored : ℕ → Option A) (first : ℕ) (ns : List ℕ) (ss : List ℤ) → MayLackForClone is_infallible (λ i. inside ns i (stored_at stored (place_of first ss i))) → 0 < size_of ns
  refused_some stored first ns ss refused = let below = row_rank_below ns i (by_test (in_box ns i) refl refused.2) in omega (arith, below)
    where
      i : List ℕ
      i = refused.0

      o : Option A
      o = stored_at stored (place_of first ss i)

      by_test : (t : Bool) → in_box ns i ≡ t → inside ns i o ≡ Some refused.1 → in_box ns i ≡ true
      by_test true h e = h
      by_test false h e = absurd (let none : None ≡ Some refused.1 = rw h at e in cc)

-- Elements in the place of others, as many as before: what a storage is once all its elements, or some, were lent.
use mathlib.Core.Path.{◌≡◌, refl, sym, ap, ◌∙◌}
use mathlib.Core.HLevel.{is_prop→PathP}
use native.Mathlib.Omega.{arith}
use native.Mathlib.Nat.{not-suc-le-zero}
use Rattle.std.proofs.Props.{props}
use Rattle.std.proofs.Math.Seq.{take-append_seam}
use Rattle.std.specs.Prelude.{ℕ, zero, suc, ◌≤◌, List, [], ◌∷◌, ◌++◌, Bool, true, false, Some, length, take, drop, slice_get, if◌then◌else◌}
use Rattle.std.specs.Option.{is_some}
use Rattle.std.specs.Vec.{with_items}
use Rattle.std.specs.declared.vec.Vec.{Vec}
use Rattle.nd_region.specs.RegionPlaces.{element_in, stored_in, overwritten_items, written_where}
use Rattle.nd_region.proofs.OverwrittenElementList.{overwritten_by}
use Rattle.nd_elements.specs.ElementBorrowEnds.{KeepsPlaces}

module _ {A : Type 0} where
  pub overwritten_itself : (xs : List A) → overwritten_items xs xs ≡ xs
  overwritten_itself [] = refl
  overwritten_itself (x ∷ xs) = ap (λ ys. x ∷ ys) (overwritten_itself xs)

  pub overwritten_again : (xs ys : List A) → overwritten_items xs (overwritten_items xs ys) ≡ overwritten_items xs ys
  overwritten_again [] ys = refl
  overwritten_again (x ∷ xs) [] = ap (λ ys. x ∷ ys) (overwritten_itself xs)
  overwritten_again (x ∷ xs) (y ∷ ys) = ap (λ zs. y ∷ zs) (overwritten_again xs ys)

  -- Lists of one length have items at the same indexes.
  as_many : (xs ys : List A) (p : ℕ) → length ys ≡ length xs → is_some (slice_get ys p) ≡ is_some (slice_get xs p)
  as_many [] [] p e = refl
  as_many [] (y ∷ ys) p e = absurd (not-suc-le-zero {n = 0} (let bad : suc (length ys) ≡ 0 = e in omega arith))
  as_many (x ∷ xs) [] p e = absurd (not-suc-le-zero {n = 0} (let bad : 0 ≡ suc (length xs) = e in omega arith))
  as_many (x ∷ xs) (y ∷ ys) zero e = refl
  as_many (x ∷ xs) (y ∷ ys) (suc p) e = let i : suc (length ys) ≡ suc (length xs) = e in as_many xs ys p (omega arith)

  -- A list whose items are overwritten has elements at the same places of a mask.
  in_mask : (xs ys : List A) (fs : List Bool) (p : ℕ) → is_some (element_in (overwritten_items xs ys) fs p) ≡ is_some (element_in xs fs p)
  in_mask [] ys fs p = refl
  in_mask (x ∷ xs) [] fs p = refl
  in_mask (x ∷ xs) (y ∷ ys) [] p = refl
  in_mask (x ∷ xs) (y ∷ ys) (true ∷ fs) zero = refl
  in_mask (x ∷ xs) (y ∷ ys) (false ∷ fs) zero = refl
  in_mask (x ∷ xs) (y ∷ ys) (true ∷ fs) (suc p) = in_mask xs ys fs p
  in_mask (x ∷ xs) (y ∷ ys) (false ∷ fs) (suc p) = in_mask xs ys fs p

  -- A region whose elements are overwritten has elements at the same places.
  pub places_there : (xs ys : List A) (held : List Bool) (p : ℕ) → is_some (stored_in (overwritten_items xs ys) held p) ≡ is_some (stored_in xs held p)
  unfolding stored_in
  places_there xs ys held p = in_mask xs ys held p

  -- A region whose elements are overwritten has an element at each place at which it had one.
  pub places_kept : (xs ys : List A) (held : List Bool) → KeepsPlaces (stored_in xs held) (stored_in (overwritten_items xs ys) held)
  places_kept xs ys held p has = places_there xs ys held p ∙ has

  -- ---- Elements written at the places that pass a test.
  pub written_long : (test : ℕ → Bool) (xs ws : List A) → length (written_where test xs ws) ≡ length xs
  written_long test [] ws = refl
  written_long test (x ∷ xs) [] = refl
  written_long test (x ∷ xs) (w ∷ ws) = ap suc (written_long (λ k. test (suc k)) xs ws)

  either_same : (b : Bool) (x : A) → (if b then x else x) ≡ x
  either_same true x = refl
  either_same false x = refl

  either_again : (b : Bool) (w x : A) → (if b then (if b then w else x) else x) ≡ (if b then w else x)
  either_again true w x = refl
  either_again false w x = refl

  pub written_itself : (test : ℕ → Bool) (xs : List A) → written_where test xs xs ≡ xs
  written_itself test [] = refl
  written_itself test (x ∷ xs) = (λ k. either_same (test 0) x k ∷ written_itself (λ j. test (suc j)) xs k)

  pub written_again : (test : ℕ → Bool) (xs ws : List A) → written_where test xs (written_where test xs ws) ≡ written_where test xs ws
  written_again test [] ws = refl
  written_again test (x ∷ xs) [] = written_itself test (x ∷ xs)
  written_again test (x ∷ xs) (w ∷ ws) = (λ k. either_again (test 0) w x k ∷ written_again (λ j. test (suc j)) xs ws k)

  other_got : (test : ℕ → Bool) (xs ws : List A) (p : ℕ) → test p ≡ false → slice_get (written_where test xs ws) p ≡ slice_get xs p
  other_got test [] ws p other = refl
  other_got test (x ∷ xs) [] p other = refl
  other_got test (x ∷ xs) (w ∷ ws) zero other = ap (λ (b : Bool). Some (if b then w else x)) other
  other_got test (x ∷ xs) (w ∷ ws) (suc p) other = other_got (λ j. test (suc j)) xs ws p other

  other_in_mask : (test : ℕ → Bool) (xs ws : List A) (fs : List Bool) (p : ℕ) → test p ≡ false → element_in (written_where test xs ws) fs p ≡ element_in xs fs p
  other_in_mask test [] ws fs p other = refl
  other_in_mask test (x ∷ xs) [] fs p other = refl
  other_in_mask test (x ∷ xs) (w ∷ ws) [] p other = refl
  other_in_mask test (x ∷ xs) (w ∷ ws) (true ∷ fs) zero other = ap (λ (b : Bool). Some (if b then w else x)) other
  other_in_mask test (x ∷ xs) (w ∷ ws) (false ∷ fs) zero other = refl
  other_in_mask test (x ∷ xs) (w ∷ ws) (true ∷ fs) (suc p) other = other_in_mask (λ j. test (suc j)) xs ws fs p other
  other_in_mask test (x ∷ xs) (w ∷ ws) (false ∷ fs) (suc p) other = other_in_mask (λ j. test (suc j)) xs ws fs p other

  -- If `ws` is as long as `xs`, then `xs` overwritten with `ws` is `ws`.
  pub places_put : (xs ws : List A) → length ws ≡ length xs → overwritten_items xs ws ≡ ws
  places_put xs ws long = overwritten_by xs ws long

  -- A region written at the places that pass `test` has its old element at each place that fails it.
  pub places_outside : (xs : List A) (held : List Bool) (test : ℕ → Bool) (ws : List A) (p : ℕ) → test p ≡ false → stored_in (overwritten_items xs (written_where test xs ws)) held p ≡ stored_in xs held p
  unfolding stored_in
  places_outside xs held test ws p other = ap (λ ys. element_in ys held p) (overwritten_by xs (written_where test xs ws) (written_long test xs ws)) ∙ other_in_mask test xs ws held p other

  -- Items of a vector `v` that are replaced by others.
  module _ {Z : Type 0} (v : Vec A Z) where
    -- A vector whose items are replaced has items at the same indexes.
    pub items_there : (ws : List A) (p : ℕ) → is_some (slice_get (with_items v ws).items p) ≡ is_some (slice_get v.items p)
    items_there ws p = as_many v.items (with_items v ws).items p (sym (with_items v ws).ok.0 ∙ v.ok.0)

    -- A vector whose items are replaced has an item at each index at which it had one.
    pub items_kept : (ws : List A) → KeepsPlaces (slice_get v.items) (slice_get (with_items v ws).items)
    items_kept ws p has = items_there ws p ∙ has

    filled : (ys zs : List A) → length ys ≡ v.len → take v.len (ys ++ zs) ≡ ys
    filled ys zs e = ap (λ k. take k (ys ++ zs)) (sym e) ∙ take-append_seam ys zs

    -- If `ws` has as many items as `v`, then `v` with the items `ws` has exactly these.
    pub items_put : (ws : List A) → length ws ≡ length v.items → (with_items v ws).items ≡ ws
    items_put ws long = filled ws (drop (length ws) v.items) (long ∙ sym v.ok.0)

    -- A vector written at the places that pass `test` has its old item at each index that fails it.
    pub items_outside : (test : ℕ → Bool) (ws : List A) (p : ℕ) → test p ≡ false → slice_get (with_items v (written_where test v.items ws)).items p ≡ slice_get v.items p
    items_outside test ws p other = ap (λ ys. slice_get ys p) (items_put (written_where test v.items ws) (written_long test v.items ws)) ∙ other_got test v.items ws p other

    -- A vector with its own items is unchanged.
    pub items_itself : with_items v v.items ≡ v
    items_itself =
        let same : (with_items v v.items).items ≡ v.items = filled v.items (drop (length v.items) v.items) (sym v.ok.0) in
        λ k. record {
          ptr = v.ptr;
          len = v.len;
          cap = v.cap;
          alloc = v.alloc;
          items = same k;
          ok = is_prop→PathP (λ j. (v.len ≡ length (same j)) × (v.len ≤ v.cap)) (λ j. hlevel props) (with_items v v.items).ok v.ok k;
          small = v.small;
        }

    -- If `u` is `v` with the items `ws`, then `v` with the items of `u` is `u`.
    pub items_again : (ws : List A) → with_items v (with_items v ws).items ≡ with_items v ws
    items_again ws =
        let new = with_items v ws in
        let same : (with_items v new.items).items ≡ new.items = filled new.items (drop (length new.items) v.items) (sym new.ok.0) in
        λ k. record {
          ptr = v.ptr;
          len = v.len;
          cap = v.cap;
          alloc = v.alloc;
          items = same k;
          ok = is_prop→PathP (λ j. (v.len ≡ length (same j)) × (v.len ≤ v.cap)) (λ j. hlevel props) (with_items v new.items).ok new.ok k;
          small = v.small;
        }

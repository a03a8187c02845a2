-- What a region's map is once a part of it is back, written.
use mathlib.Core.Path.{◌≡◌, refl, sym, ap, ◌∙◌}
use Rattle.std.specs.Prelude.{ℕ, zero, suc, List, [], ◌∷◌, Bool, true, false, Option, Some, None, length, if◌then◌else◌}
use Rattle.std.specs.Option.{is_some}
use native.Mathlib.Omega.{arith}
use native.Mathlib.Nat.{not-suc-le-zero}
use Rattle.nd_region.specs.declared.divided_mutable_borrow.Region.{Region}
use Rattle.nd_region.specs.RegionPlaces.{element_in, stored_in, merged_rows, kept_where}
use Rattle.nd_region.specs.Region.{region_stored, borrow_of, rejoined_region, IsAsLong, IsPartWhere}
use Rattle.nd_region.proofs.RegionContentsForCallers.{part_stored}

module _ {A : Type 0} where
  first_of : (b : Bool) (w v : A) → Some (if b then w else v) ≡ if b then Some w else Some v
  first_of true w v = refl
  first_of false w v = refl

  same_none : (b : Bool) → ◌≡◌ {A = Option A} None (if b then None else None)
  same_none true = refl
  same_none false = refl

  merged_elements : (g : ℕ → Bool) (fs : List Bool) (ws vs : List A) (p : ℕ) → length ws ≡ length vs → element_in (merged_rows (kept_where g fs) ws vs) fs p ≡ if g p then element_in ws fs p else element_in vs fs p
  merged_elements g [] [] [] p e = same_none (g p)
  merged_elements g [] [] (v ∷ vs) p e = absurd (not-suc-le-zero {n = 0} (let bad : 0 ≡ suc (length vs) = e in omega arith))
  merged_elements g [] (w ∷ ws) [] p e = absurd (not-suc-le-zero {n = 0} (let bad : suc (length ws) ≡ 0 = e in omega arith))
  merged_elements g [] (w ∷ ws) (v ∷ vs) p e = same_none (g p)
  merged_elements g (f ∷ fs) [] [] p e = same_none (g p)
  merged_elements g (f ∷ fs) [] (v ∷ vs) p e = absurd (not-suc-le-zero {n = 0} (let bad : 0 ≡ suc (length vs) = e in omega arith))
  merged_elements g (f ∷ fs) (w ∷ ws) [] p e = absurd (not-suc-le-zero {n = 0} (let bad : suc (length ws) ≡ 0 = e in omega arith))
  merged_elements g (true ∷ fs) (w ∷ ws) (v ∷ vs) zero e = first_of (g 0) w v
  merged_elements g (false ∷ fs) (w ∷ ws) (v ∷ vs) zero e = same_none (g 0)
  merged_elements g (true ∷ fs) (w ∷ ws) (v ∷ vs) (suc p) e = let i : suc (length ws) ≡ suc (length vs) = e in merged_elements (λ k. g (suc k)) fs ws vs p (omega arith)
  merged_elements g (false ∷ fs) (w ∷ ws) (v ∷ vs) (suc p) e = let i : suc (length ws) ≡ suc (length vs) = e in merged_elements (λ k. g (suc k)) fs ws vs p (omega arith)

  -- of two rows as long as each other, the places that pass show the first's elements
  pub merged_stored : (g : ℕ → Bool) (fs : List Bool) (ws vs : List A) (p : ℕ) → length ws ≡ length vs → stored_in (merged_rows (kept_where g fs) ws vs) fs p ≡ if g p then stored_in ws fs p else stored_in vs fs p
  unfolding stored_in
  merged_stored g fs ws vs p e = merged_elements g fs ws vs p e

  pub merged_long : (fs : List Bool) (ws vs : List A) → length ws ≡ length vs → length (merged_rows fs ws vs) ≡ length vs
  merged_long [] ws vs e = refl
  merged_long (f ∷ fs) [] vs e = refl
  merged_long (f ∷ fs) (w ∷ ws) [] e = absurd (not-suc-le-zero {n = 0} (let bad : suc (length ws) ≡ 0 = e in omega arith))
  merged_long (f ∷ fs) (w ∷ ws) (v ∷ vs) e = let i : suc (length ws) ≡ suc (length vs) = e in ap suc (merged_long fs ws vs (omega arith))

  element_there : (xs ys : List A) (fs : List Bool) (p : ℕ) → length ys ≡ length xs → is_some (element_in ys fs p) ≡ is_some (element_in xs fs p)
  element_there [] [] fs p e = refl
  element_there [] (y ∷ ys) fs p e = absurd (not-suc-le-zero {n = 0} (let bad : suc (length ys) ≡ 0 = e in omega arith))
  element_there (x ∷ xs) [] fs p e = absurd (not-suc-le-zero {n = 0} (let bad : 0 ≡ suc (length xs) = e in omega arith))
  element_there (x ∷ xs) (y ∷ ys) [] p e = refl
  element_there (x ∷ xs) (y ∷ ys) (true ∷ fs) zero e = refl
  element_there (x ∷ xs) (y ∷ ys) (false ∷ fs) zero e = refl
  element_there (x ∷ xs) (y ∷ ys) (true ∷ fs) (suc p) e = let i : suc (length ys) ≡ suc (length xs) = e in element_there xs ys fs p (omega arith)
  element_there (x ∷ xs) (y ∷ ys) (false ∷ fs) (suc p) e = let i : suc (length ys) ≡ suc (length xs) = e in element_there xs ys fs p (omega arith)

  stored_there : (xs ys : List A) (fs : List Bool) (p : ℕ) → length ys ≡ length xs → is_some (stored_in ys fs p) ≡ is_some (stored_in xs fs p)
  unfolding stored_in
  stored_there xs ys fs p e = element_there xs ys fs p e

  -- a region has an element at each place where it had one, whatever was written
  pub long_there : (r s : Region A) (p : ℕ) → borrow_of s ≡ borrow_of r → IsAsLong r s → is_some (region_stored s p) ≡ is_some (region_stored r p)
  long_there r s p same long = ap (λ b. is_some (stored_in s.items b.1 p)) same ∙ stored_there r.items s.items r.held p long

  if_twice : (b : Bool) (x y : Option A) → (if b then x else y) ≡ (if b then (if b then x else None) else y)
  if_twice true x y = refl
  if_twice false x y = refl

  module _ (g : ℕ → Bool) (r x s t : Region A) (part : IsPartWhere g r x) (long : IsAsLong x s) (others : t.items ≡ r.items) where
    as_long : length s.items ≡ length r.items
    as_long = long ∙ ap length part.0

    -- a part that is back, as long as it was, gives its places what it holds
    pub part_back : (p : ℕ) → borrow_of s ≡ borrow_of x → region_stored (rejoined_region r x s t) p ≡ if g p then region_stored s p else region_stored r p
    part_back p same =
        let held : s.held ≡ kept_where g r.held = ap (λ b. b.1) same ∙ part.1 in
        let mine : region_stored s p ≡ if g p then stored_in s.items r.held p else None = ap (λ fs. stored_in s.items fs p) held ∙ part_stored g s.items r.held p in
        (λ i. stored_in (merged_rows (part.1 i) s.items (others i)) r.held p) ∙ merged_stored g r.held s.items r.items p as_long
        ∙ if_twice (g p) (stored_in s.items r.held p) (region_stored r p) ∙ ap (λ o. if g p then o else region_stored r p) (sym mine)

    pub back_long : IsAsLong r (rejoined_region r x s t)
    back_long = (λ i. length (merged_rows x.held s.items (others i))) ∙ merged_long x.held s.items r.items as_long

-- For callers: which places a region has, and what they hold, through writes and splits.
use mathlib.Core.Path.{◌≡◌, refl, sym, ap, ◌∙◌}
use Rattle.std.specs.Prelude.{ℕ, zero, suc, ◌<◌, List, [], ◌∷◌, Bool, true, false, ◌&&◌, Option, Some, None, length, replicate, if◌then◌else◌}
use Rattle.std.specs.Option.{is_some}
use Rattle.std.specs.List.{slice_get}
use Rattle.std.proofs.Math.Bool.{and-false}
use native.Mathlib.Omega.{arith}
use native.Mathlib.Nat.{not-suc-le-zero}
use lib.ListN.{set, get_or}
use Rattle.nd_region.specs.RegionPlaces.{element_in, stored_in, merged_rows, kept_where}

swap_tests : (f a b : Bool) → ((f && b) && a) ≡ ((f && a) && b)
swap_tests true true true = refl
swap_tests true true false = refl
swap_tests true false true = refl
swap_tests true false false = refl
swap_tests false a b = refl

-- two parts taken one after the other are the same in either order
pub parts_commute : (g h : ℕ → Bool) (fs : List Bool) → kept_where g (kept_where h fs) ≡ kept_where h (kept_where g fs)
parts_commute g h [] = refl
parts_commute g h (f ∷ fs) = (λ i. swap_tests f (g 0) (h 0) i ∷ parts_commute (λ k. g (suc k)) (λ k. h (suc k)) fs i)

module _ {A : Type 0} where
  all_there : (xs : List A) (p : ℕ) → p < length xs → is_some (element_in xs (replicate (length xs) true) p) ≡ true
  all_there [] p lt = absurd (not-suc-le-zero lt)
  all_there (x ∷ xs) zero lt = refl
  all_there (x ∷ xs) (suc p) lt = let lt' : suc p < suc (length xs) = lt in all_there xs p (omega arith)

  -- a region of a whole slice has each place below the slice's length
  pub whole_has : (xs : List A) (p : ℕ) → p < length xs → is_some (stored_in xs (replicate (length xs) true) p) ≡ true
  unfolding stored_in
  whole_has xs p lt = all_there xs p lt

  all_are : (xs : List A) (p : ℕ) (d : A) → p < length xs → element_in xs (replicate (length xs) true) p ≡ Some (get_or xs p d)
  all_are [] p d lt = absurd (not-suc-le-zero lt)
  all_are (x ∷ xs) zero d lt = refl
  all_are (x ∷ xs) (suc p) d lt = let lt' : suc p < suc (length xs) = lt in all_are xs p d (omega arith)

  -- and holds there the slice's element
  pub whole_stored : (xs : List A) (p : ℕ) (d : A) → p < length xs → stored_in xs (replicate (length xs) true) p ≡ Some (get_or xs p d)
  unfolding stored_in
  whole_stored xs p d lt = all_are xs p d lt

  all_got : (xs : List A) (p : ℕ) → element_in xs (replicate (length xs) true) p ≡ slice_get xs p
  all_got [] zero = refl
  all_got [] (suc p) = refl
  all_got (x ∷ xs) zero = refl
  all_got (x ∷ xs) (suc p) = all_got xs p

  -- at each number it holds what the slice has there
  pub whole_got : (xs : List A) (p : ℕ) → stored_in xs (replicate (length xs) true) p ≡ slice_get xs p
  unfolding stored_in
  whole_got xs p = all_got xs p

  set_there : (xs : List A) (fs : List Bool) (p q : ℕ) (x : A) → is_some (element_in (set xs p x) fs q) ≡ is_some (element_in xs fs q)
  set_there [] fs p q x = refl
  set_there (y ∷ xs) [] zero q x = refl
  set_there (y ∷ xs) [] (suc p) q x = refl
  set_there (y ∷ xs) (true ∷ fs) zero zero x = refl
  set_there (y ∷ xs) (false ∷ fs) zero zero x = refl
  set_there (y ∷ xs) (true ∷ fs) zero (suc q) x = refl
  set_there (y ∷ xs) (false ∷ fs) zero (suc q) x = refl
  set_there (y ∷ xs) (true ∷ fs) (suc p) zero x = refl
  set_there (y ∷ xs) (false ∷ fs) (suc p) zero x = refl
  set_there (y ∷ xs) (true ∷ fs) (suc p) (suc q) x = set_there xs fs p q x
  set_there (y ∷ xs) (false ∷ fs) (suc p) (suc q) x = set_there xs fs p q x

  -- a write leaves the set of places as it was
  pub written_has : (xs : List A) (fs : List Bool) (p q : ℕ) (x : A) → is_some (stored_in (set xs p x) fs q) ≡ is_some (stored_in xs fs q)
  unfolding stored_in
  written_has xs fs p q x = set_there xs fs p q x

  same_set : (xs : List A) (fs : List Bool) (p : ℕ) (x : A) → is_some (element_in xs fs p) ≡ true → element_in (set xs p x) fs p ≡ Some x
  same_set [] fs p x e = cc
  same_set (y ∷ xs) [] p x e = cc
  same_set (y ∷ xs) (true ∷ fs) zero x e = refl
  same_set (y ∷ xs) (false ∷ fs) zero x e = cc
  same_set (y ∷ xs) (true ∷ fs) (suc p) x e = same_set xs fs p x e
  same_set (y ∷ xs) (false ∷ fs) (suc p) x e = same_set xs fs p x e

  -- the place holds what was written there
  pub written_same : (xs : List A) (fs : List Bool) (p : ℕ) (x : A) → is_some (stored_in xs fs p) ≡ true → stored_in (set xs p x) fs p ≡ Some x
  unfolding stored_in
  written_same xs fs p x e = same_set xs fs p x e

  other_set : (xs : List A) (fs : List Bool) (p q : ℕ) (x : A) → (q ≡ p → ⊥) → element_in (set xs p x) fs q ≡ element_in xs fs q
  other_set [] fs p q x ne = refl
  other_set (y ∷ xs) [] zero q x ne = refl
  other_set (y ∷ xs) [] (suc p) q x ne = refl
  other_set (y ∷ xs) (f ∷ fs) zero zero x ne = absurd (ne refl)
  other_set (y ∷ xs) (true ∷ fs) zero (suc q) x ne = refl
  other_set (y ∷ xs) (false ∷ fs) zero (suc q) x ne = refl
  other_set (y ∷ xs) (true ∷ fs) (suc p) zero x ne = refl
  other_set (y ∷ xs) (false ∷ fs) (suc p) zero x ne = refl
  other_set (y ∷ xs) (true ∷ fs) (suc p) (suc q) x ne = other_set xs fs p q x (λ e. ne (ap suc e))
  other_set (y ∷ xs) (false ∷ fs) (suc p) (suc q) x ne = other_set xs fs p q x (λ e. ne (ap suc e))

  -- and every other place what it held
  pub written_other : (xs : List A) (fs : List Bool) (p q : ℕ) (x : A) → (q ≡ p → ⊥) → stored_in (set xs p x) fs q ≡ stored_in xs fs q
  unfolding stored_in
  written_other xs fs p q x ne = other_set xs fs p q x ne

  none_either : (b : Bool) → ◌≡◌ {A = Option A} None (if b then None else None)
  none_either true = refl
  none_either false = refl

  first_kept : (b : Bool) (x : A) (xs : List A) (fs : List Bool) → element_in (x ∷ xs) (b ∷ fs) zero ≡ if b then Some x else None
  first_kept true x xs fs = refl
  first_kept false x xs fs = refl

  tail_kept : (h f : Bool) (x : A) (xs : List A) (fs ks : List Bool) (p : ℕ) (b : Bool) → element_in xs ks p ≡ if b then element_in xs fs p else None
      → element_in (x ∷ xs) (h ∷ ks) (suc p) ≡ if b then element_in (x ∷ xs) (f ∷ fs) (suc p) else None
  tail_kept true true x xs fs ks p b e = e
  tail_kept true false x xs fs ks p b e = e
  tail_kept false true x xs fs ks p b e = e
  tail_kept false false x xs fs ks p b e = e

  part_elements : (g : ℕ → Bool) (xs : List A) (fs : List Bool) (p : ℕ) → element_in xs (kept_where g fs) p ≡ if g p then element_in xs fs p else None
  part_elements g [] fs p = none_either (g p)
  part_elements g (x ∷ xs) [] p = none_either (g p)
  part_elements g (x ∷ xs) (true ∷ fs) zero = first_kept (g 0) x xs (kept_where (λ k. g (suc k)) fs)
  part_elements g (x ∷ xs) (false ∷ fs) zero = none_either (g 0)
  part_elements g (x ∷ xs) (f ∷ fs) (suc p) = tail_kept (f && g 0) f x xs fs (kept_where (λ k. g (suc k)) fs) p (g (suc p)) (part_elements (λ k. g (suc k)) xs fs p)

  -- the part of a region at the places that pass a test
  pub part_stored : (g : ℕ → Bool) (xs : List A) (fs : List Bool) (p : ℕ) → stored_in xs (kept_where g fs) p ≡ if g p then stored_in xs fs p else None
  unfolding stored_in
  part_stored g xs fs p = part_elements g xs fs p

  -- it has the places of the region that pass
  pub part_has : (g : ℕ → Bool) (xs : List A) (fs : List Bool) (p : ℕ) → g p ≡ true → is_some (stored_in xs fs p) ≡ true → is_some (stored_in xs (kept_where g fs) p) ≡ true
  part_has g xs fs p pass has = ap is_some (part_stored g xs fs p ∙ ap (λ (b : Bool). if b then stored_in xs fs p else None) pass) ∙ has

  -- and they hold what they held
  pub part_holds : (g : ℕ → Bool) (xs : List A) (fs : List Bool) (p : ℕ) → g p ≡ true → stored_in xs (kept_where g fs) p ≡ stored_in xs fs p
  part_holds g xs fs p pass = part_stored g xs fs p ∙ ap (λ (b : Bool). if b then stored_in xs fs p else None) pass

  -- and no other place
  pub part_lacks : (g : ℕ → Bool) (xs : List A) (fs : List Bool) (p : ℕ) → g p ≡ false → stored_in xs (kept_where g fs) p ≡ None
  part_lacks g xs fs p fail = part_stored g xs fs p ∙ ap (λ (b : Bool). if b then stored_in xs fs p else None) fail

  some_at : (xs : List A) (fs : List Bool) (p : ℕ) (x d : A) → element_in xs fs p ≡ Some x → (p < length xs) × (get_or xs p d ≡ x)
  some_at [] fs p x d e = cc
  some_at (y ∷ xs) [] p x d e = cc
  some_at (y ∷ xs) (true ∷ fs) zero x d e = (omega arith, cc)
  some_at (y ∷ xs) (false ∷ fs) zero x d e = cc
  some_at (y ∷ xs) (true ∷ fs) (suc p) x d e = let r = some_at xs fs p x d e in (omega (arith, r.0), r.1)
  some_at (y ∷ xs) (false ∷ fs) (suc p) x d e = let r = some_at xs fs p x d e in (omega (arith, r.0), r.1)

  -- what a place holds is the element of the row there
  pub stored_at : (xs : List A) (fs : List Bool) (p : ℕ) (x d : A) → stored_in xs fs p ≡ Some x → (p < length xs) × (get_or xs p d ≡ x)
  unfolding stored_in
  stored_at xs fs p x d e = some_at xs fs p x d e

  pub merged_rest : (g : ℕ → Bool) (fs : List Bool) (ws vs : List A) → length vs ≡ length ws → ((k : ℕ) → g k ≡ false) → merged_rows (kept_where g fs) ws vs ≡ vs
  merged_rest g [] ws vs e none = refl
  merged_rest g (f ∷ fs) [] vs e none = refl
  merged_rest g (f ∷ fs) (w ∷ ws) [] e none = refl
  merged_rest g (f ∷ fs) (w ∷ ws) (v ∷ vs) e none =
      let i : suc (length vs) ≡ suc (length ws) = e in
      (λ j. (if f && none 0 j then w else v) ∷ merged_rows (kept_where (λ k. g (suc k)) fs) ws vs) ∙ ap (λ (b : Bool). (if b then w else v) ∷ merged_rows (kept_where (λ k. g (suc k)) fs) ws vs) (and-false f)
      ∙ ap (λ (l : List A). v ∷ l) (merged_rest (λ k. g (suc k)) fs ws vs (omega arith) (λ k. none (suc k)))

  -- what two parts make of a row, place by place
  pub merged_at : (ks : List Bool) (ws vs : List A) (k : ℕ) (d : A) → length ws ≡ length ks → length vs ≡ length ks → get_or (merged_rows ks ws vs) k d ≡ if get_or ks k false then get_or ws k d else get_or vs k d
  merged_at [] [] [] k d e e' = refl
  merged_at [] [] (v ∷ vs) k d e e' = let bad : suc (length vs) ≡ 0 = e' in absurd (not-suc-le-zero {n = 0} (omega arith))
  merged_at [] (w ∷ ws) vs k d e e' = let bad : suc (length ws) ≡ 0 = e in absurd (not-suc-le-zero {n = 0} (omega arith))
  merged_at (f ∷ ks) [] vs k d e e' = let bad : 0 ≡ suc (length ks) = e in absurd (not-suc-le-zero {n = 0} (omega arith))
  merged_at (f ∷ ks) (w ∷ ws) [] k d e e' = let bad : 0 ≡ suc (length ks) = e' in absurd (not-suc-le-zero {n = 0} (omega arith))
  merged_at (f ∷ ks) (w ∷ ws) (v ∷ vs) zero d e e' = refl
  merged_at (f ∷ ks) (w ∷ ws) (v ∷ vs) (suc k) d e e' =
      let i : suc (length ws) ≡ suc (length ks) = e in let j : suc (length vs) ≡ suc (length ks) = e' in merged_at ks ws vs k d (omega arith) (omega arith)

  or_none : (b : Bool) (o : Option A) → is_some (if b then o else None) ≡ true → b ≡ true
  or_none true o e = refl
  or_none false o e = cc

  -- of a part, only places that pass
  pub passes : (g : ℕ → Bool) (xs : List A) (fs : List Bool) (p : ℕ) → is_some (stored_in xs (kept_where g fs) p) ≡ true → g p ≡ true
  passes g xs fs p has = or_none (g p) (stored_in xs fs p) (ap is_some (sym (part_stored g xs fs p)) ∙ has)

  -- two tests that no place passes both give parts that share no place
  pub parts_apart : (g h : ℕ → Bool) (xs : List A) (fs : List Bool) (p : ℕ) → (g p ≡ true → h p ≡ false) → is_some (stored_in xs (kept_where g fs) p) ≡ true → stored_in xs (kept_where h fs) p ≡ None
  parts_apart g h xs fs p never has = part_lacks h xs fs p (never (passes g xs fs p has))

-- A region of the places 0 to n - 1: which it has, and which its parts have.
use mathlib.Core.Path.{◌≡◌, refl, sym, ap, ◌∙◌}
use Rattle.std.specs.Prelude.{ℕ, List, [], ◌∷◌, Bool, true, ◌&&◌, ℤ, pos, replicate, nat_lt}
use Rattle.std.specs.Option.{is_some}
use Rattle.std.proofs.lemmas.Bool.{and_parts, ltb-true}
use native.Mathlib.Omega.{arith}
use Rattle.nd_region.specs.declared.divided_mutable_borrow.Region.{Region}
use Rattle.nd_region.specs.RegionPlaces.{stored_in, merged_rows, kept_where, names, names_not, all_pass}
use Rattle.nd_region.specs.Region.{region_stored, with_element, HasPlaces, IsPartWhere, rejoined_region}
use Rattle.nd_region.proofs.PlacesNamedByLayouts.{checked}
use Rattle.nd_region.proofs.RegionContentsForCallers.{whole_has, part_has}
use Rattle.uses_nd_region.specs.WritesToEvenOddAndColumns.{with_each, each_set, HasEach, HasFirst}
use Rattle.uses_nd_region.proofs.ListsWrittenOut.{six, twelve}

-- each number is below n and passes
abbrev pub each_below : ℕ → (ℕ → Bool) → List ℕ → Bool
each_below n g [] = true
each_below n g (p ∷ ps) = (nat_lt p n && g p) && each_below n g ps

-- a region of n places has them all in its set
pub all_held : {A : Type 0} (n : ℕ) (r : Region A) → HasFirst n r → r.held ≡ replicate n true
all_held n r is = is.1.1 ∙ ap (λ n. replicate n true) is.0

module _ {A : Type 0} (n : ℕ) (r : Region A) (is : HasFirst n r) where
  has : (p : ℕ) → nat_lt p n ≡ true → is_some (region_stored r p) ≡ true
  has p below = ap (λ fs. is_some (stored_in r.items fs p)) is.1.1 ∙ whole_has r.items p (omega (arith, is.0, ltb-true p n below))

  -- it has the places of a layout that is written out: the test computes
  pub has_layout : (offset : ℕ) (ns : List ℕ) (ss : List ℤ) → all_pass (λ p. nat_lt p n) (pos offset) ns ss ≡ true → HasPlaces r offset ns ss
  has_layout offset ns ss e = checked r (λ p. nat_lt p n) has offset ns ss e

  part_has_each : (g : ℕ → Bool) (x : Region A) → IsPartWhere g r x → (ps : List ℕ) → each_below n g ps ≡ true → HasEach x ps
  part_has_each g x part [] e = tt
  part_has_each g x part (p ∷ ps) e =
      let h = and_parts (nat_lt p n && g p) (each_below n g ps) e in let one = and_parts (nat_lt p n) (g p) h.0 in
      ((λ i. is_some (stored_in (part.0 i) (part.1 i) p)) ∙ part_has g r.items r.held p one.1 (has p one.0), part_has_each g x part ps h.1)

  -- the parts of a split have these places, and those
  pub parts_have : (offset : ℕ) (ns : List ℕ) (ss : List ℤ) (ps qs : List ℕ) → each_below n (names offset ns ss) ps ≡ true → each_below n (names_not offset ns ss) qs ≡ true → (x y : Region A)
      → IsPartWhere (names offset ns ss) r x → IsPartWhere (names_not offset ns ss) r y → HasEach x ps × HasEach y qs
  parts_have offset ns ss ps qs e f x y named others = (part_has_each (names offset ns ss) x named ps e, part_has_each (names_not offset ns ss) y others qs f)

module _ {A : Type 0} where
  items_of : (ps : List ℕ) (a : A) (x : Region A) → (with_each x ps a).items ≡ each_set x.items ps a
  items_of [] a x = refl
  items_of (p ∷ ps) a x = items_of ps a (with_element x p a)

  -- what a split leaves where each part had one value written at some places
  pub written_items : (r : Region A) (xs : List A) → r.items ≡ xs → (g : ℕ → Bool) (fs : List Bool) → r.held ≡ fs → (h : ℕ → Bool) (ps qs : List ℕ) (a b : A) (x y s t : Region A) → IsPartWhere g r x → IsPartWhere h r y
      → s ≡ with_each x ps a → t ≡ with_each y qs b → (rejoined_region r x s t).items ≡ merged_rows (kept_where g fs) (each_set xs ps a) (each_set xs qs b)
  written_items r xs spelled g fs mask h ps qs a b x y s t named others done_s done_t =
      let at_s : s.items ≡ each_set xs ps a = ap (λ r. r.items) done_s ∙ items_of ps a x ∙ ap (λ l. each_set l ps a) (named.0 ∙ spelled) in
      let at_t : t.items ≡ each_set xs qs b = ap (λ r. r.items) done_t ∙ items_of qs b y ∙ ap (λ l. each_set l qs b) (others.0 ∙ spelled) in
      (λ i. merged_rows (named.1 i) (at_s i) (at_t i)) ∙ ap (λ fs. merged_rows (kept_where g fs) (each_set xs ps a) (each_set xs qs b)) mask

module _ (r : Region ℕ) where
  -- one value at the even places of six, another at the odd ones
  pub turns_done : HasFirst 6 r → (x y s t : Region ℕ) → IsPartWhere (names 0 (3 ∷ []) (pos 2 ∷ [])) r x → IsPartWhere (names_not 0 (3 ∷ []) (pos 2 ∷ [])) r y
      → s ≡ with_each x (0 ∷ 2 ∷ 4 ∷ []) 0 → t ≡ with_each y (1 ∷ 3 ∷ 5 ∷ []) 1 → (rejoined_region r x s t).items ≡ 0 ∷ 1 ∷ 0 ∷ 1 ∷ 0 ∷ 1 ∷ []
  turns_done is x y s t named others done_s done_t =
      let w = six r.items is.0 in let xs : List ℕ = w.0 ∷ w.1 ∷ w.2 ∷ w.3 ∷ w.4 ∷ w.5 ∷ [] in
      written_items r xs w.6 (names 0 (3 ∷ []) (pos 2 ∷ [])) (replicate 6 true) (all_held 6 r is) (names_not 0 (3 ∷ []) (pos 2 ∷ [])) (0 ∷ 2 ∷ 4 ∷ []) (1 ∷ 3 ∷ 5 ∷ []) 0 1 x y s t named others done_s done_t

  -- the even places of six alone
  pub evens_done : HasFirst 6 r → (x y s t : Region ℕ) → IsPartWhere (names 0 (3 ∷ []) (pos 2 ∷ [])) r x → IsPartWhere (names_not 0 (3 ∷ []) (pos 2 ∷ [])) r y
      → s ≡ with_each x (0 ∷ 2 ∷ 4 ∷ []) 7 → t ≡ y → (rejoined_region r x s t).items ≡ each_set r.items (0 ∷ 2 ∷ 4 ∷ []) 7
  evens_done is x y s t named others done_s done_t =
      let w = six r.items is.0 in let xs : List ℕ = w.0 ∷ w.1 ∷ w.2 ∷ w.3 ∷ w.4 ∷ w.5 ∷ [] in
      written_items r xs w.6 (names 0 (3 ∷ []) (pos 2 ∷ [])) (replicate 6 true) (all_held 6 r is) (names_not 0 (3 ∷ []) (pos 2 ∷ [])) (0 ∷ 2 ∷ 4 ∷ []) [] 7 7 x y s t named others done_s done_t
      ∙ ap (λ l. each_set l (0 ∷ 2 ∷ 4 ∷ []) 7) (sym w.6)

  -- the second column of three rows of four, and every other place
  pub column_done : HasFirst 12 r → (x y s t : Region ℕ) → IsPartWhere (names 1 (3 ∷ []) (pos 4 ∷ [])) r x → IsPartWhere (names_not 1 (3 ∷ []) (pos 4 ∷ [])) r y
      → s ≡ with_each x (1 ∷ 5 ∷ 9 ∷ []) 1 → t ≡ with_each y (0 ∷ 2 ∷ 3 ∷ 4 ∷ 6 ∷ 7 ∷ 8 ∷ 10 ∷ 11 ∷ []) 0 → (rejoined_region r x s t).items ≡ 0 ∷ 1 ∷ 0 ∷ 0 ∷ 0 ∷ 1 ∷ 0 ∷ 0 ∷ 0 ∷ 1 ∷ 0 ∷ 0 ∷ []
  column_done is x y s t named others done_s done_t =
      let w = twelve r.items is.0 in let xs : List ℕ = w.0 ∷ w.1 ∷ w.2 ∷ w.3 ∷ w.4 ∷ w.5 ∷ w.6 ∷ w.7 ∷ w.8 ∷ w.9 ∷ w.10 ∷ w.11 ∷ [] in
      written_items r xs w.12 (names 1 (3 ∷ []) (pos 4 ∷ [])) (replicate 12 true) (all_held 12 r is) (names_not 1 (3 ∷ []) (pos 4 ∷ [])) (1 ∷ 5 ∷ 9 ∷ []) (0 ∷ 2 ∷ 3 ∷ 4 ∷ 6 ∷ 7 ∷ 8 ∷ 10 ∷ 11 ∷ []) 1 0 x y s t named others done_s done_t

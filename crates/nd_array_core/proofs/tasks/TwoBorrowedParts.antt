-- A task on two views of parts of a region that share no place: what each is lent, and what the region holds afterwards.
use Rattle.nd_array_core.proofs.NamesFromOtherCrates.{◌≡◌, ℕ, Bool, true, false, not, List, length, ℤ, pos, negsuc, refl, ap, sym, ◌∙◌, Option, ◌||◌, is_some, if◌then◌else◌, not-true, or-true, in_box, place_of, Region, stored_in, names, names_not, names_either, kept_where, merged_rows, LayoutsShareNoPlace, region_stored, borrow_of, rejoined_region, IsAsLong, IsPartWhere, named_at, named_once, part_holds, merged_stored, names_place}
use Rattle.nd_array_core.specs.scoped.ViewTasks.{AgreesOnNamed, LiesSoundly}

module _ {A : Type 0} where
  -- what lies soundly in one map does in another that has the same at its places
  module _ (m k : ℕ → Option A) (offset : ℕ) (ns : List ℕ) (ss : List ℤ) (agrees : AgreesOnNamed m offset ns ss k) where
    agrees_at : (z : ℤ) (i : List ℕ) → in_box ns i ≡ true → place_of offset ss i ≡ z → names_place m z ≡ true → names_place k z ≡ true
    agrees_at (pos p) i h e has = ap is_some (agrees p (named_at offset ns ss p i h e)) ∙ has
    agrees_at (negsuc n) i h e has = has

    pub agrees_sound : LiesSoundly m offset ns ss → LiesSoundly k offset ns ss
    agrees_sound sound = record { valid = sound.valid; holds = λ i h. agrees_at (place_of offset ss i) i h refl (sound.holds i h); own_places = sound.own_places }

  module _ (offset : ℕ) (ns : List ℕ) (ss : List ℤ) (r x : Region A) where
    pub part_agrees : IsPartWhere (names offset ns ss) r x → AgreesOnNamed (region_stored r) offset ns ss (region_stored x)
    part_agrees part p e = (λ i. stored_in (part.0 i) (part.1 i) p) ∙ part_holds (names offset ns ss) r.items r.held p e

    pub rest_agrees : (offset' : ℕ) (ns' : List ℕ) (ss' : List ℤ) → LayoutsShareNoPlace offset ns ss offset' ns' ss' → IsPartWhere (names_not offset ns ss) r x → AgreesOnNamed (region_stored r) offset' ns' ss' (region_stored x)
    rest_agrees offset' ns' ss' apart part p e = (λ i. stored_in (part.0 i) (part.1 i) p) ∙ part_holds (names_not offset ns ss) r.items r.held p (named_once offset ns ss offset' ns' ss' apart p e)

  -- both parts are back: each place has what its part has
  module _ (g : ℕ → Bool) (r x y s t : Region A) (first : IsPartWhere g r x) (second : IsPartWhere (λ k. not (g k)) r y) (same_first : borrow_of s ≡ borrow_of x) (same_second : borrow_of t ≡ borrow_of y) (long_first : IsAsLong x s) (long_second : IsAsLong y t) where
    lengths : length s.items ≡ length t.items
    lengths = long_first ∙ ap length first.0 ∙ sym (long_second ∙ ap length second.0)

    made : (p : ℕ) → region_stored (rejoined_region r x s t) p ≡ if g p then stored_in s.items r.held p else stored_in t.items r.held p
    made p = (λ i. stored_in (merged_rows (first.1 i) s.items t.items) r.held p) ∙ merged_stored g r.held s.items t.items p lengths

    pub first_back : (p : ℕ) → g p ≡ true → region_stored s p ≡ region_stored (rejoined_region r x s t) p
    first_back p e =
        let held : s.held ≡ kept_where g r.held = ap (λ b. b.1) same_first ∙ first.1 in
        ap (λ fs. stored_in s.items fs p) held ∙ part_holds g s.items r.held p e ∙ sym (made p ∙ ap (λ (b : Bool). if b then stored_in s.items r.held p else stored_in t.items r.held p) e)

    pub second_back : (p : ℕ) → not (g p) ≡ true → region_stored t p ≡ region_stored (rejoined_region r x s t) p
    second_back p e =
        let held : t.held ≡ kept_where (λ k. not (g k)) r.held = ap (λ b. b.1) same_second ∙ second.1 in
        ap (λ fs. stored_in t.items fs p) held ∙ part_holds (λ k. not (g k)) t.items r.held p e ∙ sym (made p ∙ ap (λ (b : Bool). if b then stored_in s.items r.held p else stored_in t.items r.held p) (not-true (g p) e))

-- ---- the places that either of two layouts names, lent as one region
pub either_same : {f1 f1' : ℕ} {n1 n1' : List ℕ} {s1 s1' : List ℤ} {f2 f2' : ℕ} {n2 n2' : List ℕ} {s2 s2' : List ℤ} → f1 ≡ f1' → n1 ≡ n1' → s1 ≡ s1' → f2 ≡ f2' → n2 ≡ n2' → s2 ≡ s2' → names_either f1 n1 s1 f2 n2 s2 ≡ names_either f1' n1' s1' f2' n2' s2'
either_same a b c d e f = λ i. names_either (a i) (b i) (c i) (d i) (e i) (f i)

module _ (f1 : ℕ) (n1 : List ℕ) (s1 : List ℤ) (f2 : ℕ) (n2 : List ℕ) (s2 : List ℤ) where
  by_first : (p : ℕ) → names f1 n1 s1 p ≡ true → names_either f1 n1 s1 f2 n2 s2 p ≡ true
  by_first p e = ap (λ b. b || names f2 n2 s2 p) e

  by_second : (p : ℕ) → names f2 n2 s2 p ≡ true → names_either f1 n1 s1 f2 n2 s2 p ≡ true
  by_second p e = ap (λ b. names f1 n1 s1 p || b) e ∙ or-true (names f1 n1 s1 p)

  module _ {A : Type 0} (r x : Region A) (part : IsPartWhere (names_either f1 n1 s1 f2 n2 s2) r x) where
    passed : (p : ℕ) → names_either f1 n1 s1 f2 n2 s2 p ≡ true → region_stored x p ≡ region_stored r p
    passed p e = (λ i. stored_in (part.0 i) (part.1 i) p) ∙ part_holds (names_either f1 n1 s1 f2 n2 s2) r.items r.held p e

    pub either_first : AgreesOnNamed (region_stored r) f1 n1 s1 (region_stored x)
    either_first p e = passed p (by_first p e)

    pub either_second : AgreesOnNamed (region_stored r) f2 n2 s2 (region_stored x)
    either_second p e = passed p (by_second p e)

  module _ {A : Type 0} (old left new : ℕ → Option A) (is : (p : ℕ) → new p ≡ if names_either f1 n1 s1 f2 n2 s2 p then left p else old p) where
    back : (p : ℕ) → names_either f1 n1 s1 f2 n2 s2 p ≡ true → left p ≡ new p
    back p e = sym (is p ∙ ap (λ (b : Bool). if b then left p else old p) e)

    pub first_left : (k : ℕ → Option A) → AgreesOnNamed left f1 n1 s1 k → AgreesOnNamed new f1 n1 s1 k
    first_left k agrees p e = agrees p e ∙ back p (by_first p e)

    pub second_left : (k : ℕ → Option A) → AgreesOnNamed left f2 n2 s2 k → AgreesOnNamed new f2 n2 s2 k
    second_left k agrees p e = agrees p e ∙ back p (by_second p e)

    pub neither_left : (p : ℕ) → names f1 n1 s1 p ≡ false → names f2 n2 s2 p ≡ false → new p ≡ old p
    neither_left p e h = is p ∙ (λ i. if (e i || h i) then left p else old p)

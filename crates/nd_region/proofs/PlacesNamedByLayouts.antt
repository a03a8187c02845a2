-- Which places a layout names: those of its indexes.
use mathlib.Core.Path.{◌≡◌, refl, sym, ap, ◌∙◌, subst}
use Rattle.std.specs.Prelude.{ℕ, zero, suc, ◌<◌, List, [], ◌∷◌, ℤ, pos, negsuc, ◌+ℤ◌, ◌*ℤ◌, Bool, true, false, ◌||◌, nat_eq, nat_lt}
use Rattle.std.specs.Option.{is_some}
use Rattle.std.specs.Cmp.{unsigned_Decides}
use native.Mathlib.Omega.{arith}
use Rattle.std.proofs.lemmas.Bool.{and_parts, and_from, lt-ltb, ltb-true}
use Rattle.std.proofs.lemmas.Int.{ints}
use Rattle.std.proofs.Math.IntN.{+ℤ_assoc}
use native.Mathlib.Nat.{not-suc-le-zero}
use Rattle.nd_shape_and_slice.specs.ShapesAndIndexOrders.{in_box}
use Rattle.nd_shape_and_slice.specs.PlacesAndOverlaps.{displacement_of, place_of}
use Rattle.nd_region.specs.declared.divided_mutable_borrow.Region.{Region}
use Rattle.nd_region.specs.RegionPlaces.{has_place, any_below, all_below, all_pass, place_passes, equals_place, names_from, names}
use Rattle.nd_region.specs.Region.{region_stored, HasPlaces}

is_it : (z : ℤ) (p : ℕ) → equals_place z p ≡ true → z ≡ pos p
is_it (pos n) p e = ap pos ((unsigned_Decides n p).0 e)
is_it (negsuc n) p e = cc

that_is : (p : ℕ) → equals_place (pos p) p ≡ true
that_is p = (unsigned_Decides p p).1 refl

or_cases : (a b : Bool) → (a || b) ≡ true → (P : Type 0) → (a ≡ true → P) → (b ≡ true → P) → P
or_cases true b e P f h = f refl
or_cases false b e P f h = h e

pub any_at : (n : ℕ) (g : ℕ → Bool) → any_below n g ≡ true → (j : ℕ) × (j < n) × (g j ≡ true)
any_at zero g e = cc
any_at (suc n) g e = or_cases (g n) (any_below n g) e ((j : ℕ) × (j < suc n) × (g j ≡ true)) (λ h. (n, omega arith, h)) (λ h. let r = any_at n g h in (r.0, omega (arith, r.1), r.2))

apart : {b : Bool} → b ≡ false → b ≡ true → ⊥
apart h k = cc

less : (n j : ℕ) → j < suc n → (j ≡ n → ⊥) → j < n
less n j lt ne = omega (arith, ne)

either_way : (c a b : Bool) → (c ≡ true → a ≡ true) → (c ≡ false → b ≡ true) → (a || b) ≡ true
either_way true a b f g = ap (λ (x : Bool). x || b) (f refl)
either_way false true b f g = refl
either_way false false b f g = g refl

pub any_of : (n : ℕ) (g : ℕ → Bool) (j : ℕ) → j < n → g j ≡ true → any_below n g ≡ true
any_of zero g j lt e = absurd (not-suc-le-zero lt)
any_of (suc n) g j lt e = either_way (nat_eq n j) (g n) (any_below n g) (λ h. subst (λ (k : ℕ). g k ≡ true) (sym ((unsigned_Decides n j).0 h)) e)
    (λ h. any_of n g j (less n j lt (λ same. apart h ((unsigned_Decides n j).1 (sym same)))) e)

-- a place that the layout names is that of an index
named_index : (z : ℤ) (ns : List ℕ) (ss : List ℤ) (p : ℕ) → names_from z ns ss p ≡ true → (i : List ℕ) × (in_box ns i ≡ true) × (z +ℤ displacement_of ss i ≡ pos p)
named_index z [] [] p e = ([], refl, omega (arith, ints, is_it z p e))
named_index z [] (s ∷ ss) p e = ([], refl, omega (arith, ints, is_it z p e))
named_index z (n ∷ ns) [] p e =
    let j = any_at n (λ k. names_from z ns [] p) e in let r = named_index z ns [] p j.2 in
    (j.0 ∷ r.0, and_from (nat_lt j.0 n) (in_box ns r.0) (lt-ltb j.0 n j.1) r.1, r.2)
named_index z (n ∷ ns) (s ∷ ss) p e =
    let j = any_at n (λ k. names_from (z +ℤ (pos k *ℤ s)) ns ss p) e in let r = named_index (z +ℤ (pos j.0 *ℤ s)) ns ss p j.2 in
    (j.0 ∷ r.0, and_from (nat_lt j.0 n) (in_box ns r.0) (lt-ltb j.0 n j.1) r.1, sym (+ℤ_assoc z (pos j.0 *ℤ s) (displacement_of ss r.0)) ∙ r.2)

-- and the place of an index is named
index_named : (z : ℤ) (ns : List ℕ) (ss : List ℤ) (p : ℕ) (i : List ℕ) → in_box ns i ≡ true → z +ℤ displacement_of ss i ≡ pos p → names_from z ns ss p ≡ true
index_named z [] [] p [] b e = let same : z ≡ pos p = omega (arith, ints, e) in subst (λ (w : ℤ). equals_place w p ≡ true) (sym same) (that_is p)
index_named z [] (s ∷ ss) p [] b e = let same : z ≡ pos p = omega (arith, ints, e) in subst (λ (w : ℤ). equals_place w p ≡ true) (sym same) (that_is p)
index_named z [] ss p (i ∷ is) b e = cc
index_named z (n ∷ ns) ss p [] b e = cc
index_named z (n ∷ ns) [] p (i ∷ is) b e =
    let h = and_parts (nat_lt i n) (in_box ns is) b in any_of n (λ k. names_from z ns [] p) i (ltb-true i n h.0) (index_named z ns [] p is h.1 e)
index_named z (n ∷ ns) (s ∷ ss) p (i ∷ is) b e =
    let h = and_parts (nat_lt i n) (in_box ns is) b in
    any_of n (λ k. names_from (z +ℤ (pos k *ℤ s)) ns ss p) i (ltb-true i n h.0) (index_named (z +ℤ (pos i *ℤ s)) ns ss p is h.1 (+ℤ_assoc z (pos i *ℤ s) (displacement_of ss is) ∙ e))

-- a place is named exactly where it is that of an index
pub named_by : (offset : ℕ) (ns : List ℕ) (ss : List ℤ) (p : ℕ) → names offset ns ss p ≡ true → (i : List ℕ) × (in_box ns i ≡ true) × (place_of offset ss i ≡ pos p)
named_by offset ns ss p e = named_index (pos offset) ns ss p e

pub named_at : (offset : ℕ) (ns : List ℕ) (ss : List ℤ) (p : ℕ) (i : List ℕ) → in_box ns i ≡ true → place_of offset ss i ≡ pos p → names offset ns ss p ≡ true
named_at offset ns ss p i b e = index_named (pos offset) ns ss p i b e

here_or : (c a : Bool) → (c ≡ true → a ≡ true) → (c ≡ false → a ≡ true) → a ≡ true
here_or true a f g = f refl
here_or false a f g = g refl

all_at : (n : ℕ) (g : ℕ → Bool) (j : ℕ) → all_below n g ≡ true → j < n → g j ≡ true
all_at zero g j e lt = absurd (not-suc-le-zero lt)
all_at (suc n) g j e lt = let h = and_parts (g n) (all_below n g) e in
    here_or (nat_eq n j) (g j) (λ c. subst (λ (k : ℕ). g k ≡ true) ((unsigned_Decides n j).0 c) h.0) (λ c. all_at n g j h.1 (less n j lt (λ same. apart c ((unsigned_Decides n j).1 (sym same)))))

each_passes : (g : ℕ → Bool) (z : ℤ) (ns : List ℕ) (ss : List ℤ) → all_pass g z ns ss ≡ true → (i : List ℕ) → in_box ns i ≡ true → place_passes g (z +ℤ displacement_of ss i) ≡ true
each_passes g z [] [] e [] b = subst (λ (w : ℤ). place_passes g w ≡ true) {x = z} (omega (arith, ints)) e
each_passes g z [] (s ∷ ss) e [] b = subst (λ (w : ℤ). place_passes g w ≡ true) {x = z} (omega (arith, ints)) e
each_passes g z [] ss e (i ∷ is) b = cc
each_passes g z (n ∷ ns) ss e [] b = cc
each_passes g z (n ∷ ns) [] e (i ∷ is) b =
    let h = and_parts (nat_lt i n) (in_box ns is) b in each_passes g z ns [] (all_at n (λ j. all_pass g z ns []) i e (ltb-true i n h.0)) is h.1
each_passes g z (n ∷ ns) (s ∷ ss) e (i ∷ is) b =
    let h = and_parts (nat_lt i n) (in_box ns is) b in
    subst (λ (w : ℤ). place_passes g w ≡ true) (+ℤ_assoc z (pos i *ℤ s) (displacement_of ss is))
    (each_passes g (z +ℤ (pos i *ℤ s)) ns ss (all_at n (λ j. all_pass g (z +ℤ (pos j *ℤ s)) ns ss) i e (ltb-true i n h.0)) is h.1)

module _ {A : Type 0} where
  passing_has : (r : Region A) (g : ℕ → Bool) → ((p : ℕ) → g p ≡ true → is_some (region_stored r p) ≡ true) → (z : ℤ) → place_passes g z ≡ true → has_place (region_stored r) z ≡ true
  passing_has r g has (pos p) e = has p e
  passing_has r g has (negsuc n) e = cc

  -- a region that has each place that passes a test has the layout's places where each of them passes; where the
  -- layout is written out and the test computes, so does the last condition
  pub checked : (r : Region A) (g : ℕ → Bool) → ((p : ℕ) → g p ≡ true → is_some (region_stored r p) ≡ true) → (offset : ℕ) (ns : List ℕ) (ss : List ℤ) → all_pass g (pos offset) ns ss ≡ true → HasPlaces r offset ns ss
  checked r g has offset ns ss e = λ i b. passing_has r g has (place_of offset ss i) (each_passes g (pos offset) ns ss e i b)

  -- where a region has the layout's places, it has each that the layout names
  pub named_has : (r : Region A) (offset : ℕ) (ns : List ℕ) (ss : List ℤ) (p : ℕ) → HasPlaces r offset ns ss → names offset ns ss p ≡ true → is_some (region_stored r p) ≡ true
  named_has r offset ns ss p has e = let i = named_by offset ns ss p e in subst (λ (z : ℤ). has_place (region_stored r) z ≡ true) i.2 (has i.0 i.1)

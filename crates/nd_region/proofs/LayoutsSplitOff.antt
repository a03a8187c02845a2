-- Layouts split off one after the other: those that share no place may be, in either order, with the same maps.
use mathlib.Core.Path.{◌≡◌, refl, sym, ap, ◌∙◌}
use Rattle.std.specs.Prelude.{ℕ, suc, List, [], ◌∷◌, ℤ, pos, negsuc, Bool, true, false, ◌&&◌}
use Rattle.std.specs.Option.{is_some}
use Rattle.std.proofs.lemmas.Bool.{false_from_ne_true, not_from_false}
use Rattle.nd_shape_and_slice.specs.ShapesAndIndexOrders.{in_box}
use Rattle.nd_shape_and_slice.specs.PlacesAndOverlaps.{place_of}
use Rattle.nd_region.specs.declared.divided_mutable_borrow.Region.{Region}
use Rattle.nd_region.specs.RegionPlaces.{stored_in, has_place, kept_where, names, names_not, LayoutsShareNoPlace, HasDistinctPlaces}
use Rattle.nd_region.specs.Region.{region_stored, HasPlaces, IsPartWhere}
use Rattle.nd_region.proofs.PlacesNamedByLayouts.{named_by, named_at, named_has}
use Rattle.nd_region.proofs.RegionContentsForCallers.{part_has, passes}

and_more : (f a b : Bool) → (a ≡ true → b ≡ true) → ((f && b) && a) ≡ (f && a)
and_more true true b h = ap (λ (c : Bool). c && true) (h refl)
and_more true false true h = refl
and_more true false false h = refl
and_more false a b h = refl

-- where what passes the first test passes the second, the part by the first is the same of the whole and of the part by
-- the second
same_mask : (g h : ℕ → Bool) (fs : List Bool) → ((p : ℕ) → g p ≡ true → h p ≡ true) → kept_where g (kept_where h fs) ≡ kept_where g fs
same_mask g h [] more = refl
same_mask g h (f ∷ fs) more = (λ i. and_more f (g 0) (h 0) (more 0) i ∷ same_mask (λ k. g (suc k)) (λ k. h (suc k)) fs (λ p. more (suc p)) i)

-- two layouts that show different indexes of one whose indexes have distinct places share no place
pub shown_apart : (offset : ℕ) (ns : List ℕ) (ss : List ℤ) (offset' : ℕ) (ns' : List ℕ) (ss' : List ℤ) (offset'' : ℕ) (ns'' : List ℕ) (ss'' : List ℤ) → HasDistinctPlaces offset ns ss → (f f' : List ℕ → List ℕ)
    → ((i : List ℕ) → in_box ns' i ≡ true → (in_box ns (f i) ≡ true) × (place_of offset' ss' i ≡ place_of offset ss (f i)))
    → ((i : List ℕ) → in_box ns'' i ≡ true → (in_box ns (f' i) ≡ true) × (place_of offset'' ss'' i ≡ place_of offset ss (f' i)))
    → ((i j : List ℕ) → in_box ns' i ≡ true → in_box ns'' j ≡ true → f i ≡ f' j → ⊥)
    → LayoutsShareNoPlace offset' ns' ss' offset'' ns'' ss''
shown_apart offset ns ss offset' ns' ss' offset'' ns'' ss'' distinct f f' at at' apart = λ i j b c e. let m = at i b in let n = at' j c in apart i j b c (distinct (f i) (f' j) m.0 n.0 (sym m.1 ∙ e ∙ n.1))

-- the part that a split moves has each place that the layout names
pub named_part_has : {A : Type 0} (r x : Region A) (offset : ℕ) (ns : List ℕ) (ss : List ℤ) → HasPlaces r offset ns ss → IsPartWhere (names offset ns ss) r x → (p : ℕ) → names offset ns ss p ≡ true → is_some (region_stored x p) ≡ true
named_part_has r x offset ns ss has part p e = (λ i. is_some (stored_in (part.0 i) (part.1 i) p)) ∙ part_has (names offset ns ss) r.items r.held p e (named_has r offset ns ss p has e)

-- each place that a split of such a layout moves is that of exactly one index
pub one_index : {A : Type 0} (r x : Region A) (offset : ℕ) (ns : List ℕ) (ss : List ℤ) → HasDistinctPlaces offset ns ss → IsPartWhere (names offset ns ss) r x → (p : ℕ) → is_some (region_stored x p) ≡ true
    → (i : List ℕ) × (in_box ns i ≡ true) × (place_of offset ss i ≡ pos p) × ((j : List ℕ) → in_box ns j ≡ true → place_of offset ss j ≡ pos p → j ≡ i)
one_index r x offset ns ss distinct part p has =
    let at = named_by offset ns ss p (passes (names offset ns ss) r.items r.held p ((λ i. is_some (stored_in (sym part.0 i) (sym part.1 i) p)) ∙ has)) in
    (at.0, at.1, at.2, λ j b e. distinct j at.0 b at.1 (e ∙ sym at.2))

-- a part has each place of a layout of which the whole has all, where all of them pass
pub part_has_layout : {A : Type 0} (g : ℕ → Bool) (r x : Region A) (offset : ℕ) (ns : List ℕ) (ss : List ℤ) → IsPartWhere g r x → HasPlaces r offset ns ss → ((p : ℕ) → names offset ns ss p ≡ true → g p ≡ true) → HasPlaces x offset ns ss
part_has_layout g r x offset ns ss part has pass = λ i b. at (place_of offset ss i) i b refl (has i b)
  where
    at : (z : ℤ) (i : List ℕ) → in_box ns i ≡ true → place_of offset ss i ≡ z → has_place (region_stored r) z ≡ true → has_place (region_stored x) z ≡ true
    at (pos p) i b e h = (λ k. is_some (stored_in (part.0 k) (part.1 k) p)) ∙ part_has g r.items r.held p (pass p (named_at offset ns ss p i b e)) h
    at (negsuc n) i b e h = cc

-- a part of a part is that part of the whole, where all that pass the first test pass the second
part_of_part : {A : Type 0} (g h : ℕ → Bool) (r between x y : Region A) → ((p : ℕ) → g p ≡ true → h p ≡ true) → IsPartWhere h r between → IsPartWhere g between x → IsPartWhere g r y → region_stored x ≡ region_stored y
part_of_part g h r between x y more others late early =
    let held = late.1 ∙ ap (kept_where g) others.1 ∙ same_mask g h r.held more ∙ sym early.1 in let items = late.0 ∙ others.0 ∙ sym early.0 in (λ i. stored_in (items i) (held i))

-- two layouts that share no place
module _ (offset : ℕ) (ns : List ℕ) (ss : List ℤ) (offset' : ℕ) (ns' : List ℕ) (ss' : List ℤ) (apart : LayoutsShareNoPlace offset ns ss offset' ns' ss') where
  -- what the second names, the first doesn't
  pub named_once : (p : ℕ) → names offset' ns' ss' p ≡ true → names_not offset ns ss p ≡ true
  named_once p e = let j = named_by offset' ns' ss' p e in not_from_false (names offset ns ss p) (false_from_ne_true (names offset ns ss p) (λ h. let i = named_by offset ns ss p h in apart i.0 j.0 i.1 j.1 (i.2 ∙ sym j.2)))

  module _ {A : Type 0} (r : Region A) where
    -- once the first is split off, the others still have each place of the second
    pub still_has : (others : Region A) → IsPartWhere (names_not offset ns ss) r others → HasPlaces r offset' ns' ss' → HasPlaces others offset' ns' ss'
    still_has others part has = part_has_layout (names_not offset ns ss) r others offset' ns' ss' part has named_once

-- Two columns of three rows of four, split off one after the other: their layouts share no place, since the whole's
-- strides are separated and they show different indexes of it.
use mathlib.Core.Path.{◌≡◌, refl, sym, ap, ◌∙◌}
use Rattle.std.specs.Prelude.{ℕ, zero, suc, List, [], ◌∷◌, Bool, true, ◌&&◌, pos, length, replicate, nat_lt}
use Rattle.std.proofs.lemmas.Bool.{and_parts, and_from}
use lib.Dec.{lit<}
use lib.ListN.{get_or}
use native.Mathlib.Omega.{arith}
use native.Mathlib.Nat.{not-suc-le-zero}
use Rattle.std.proofs.lemmas.Int.{ints}
use Rattle.nd_shape_and_slice.specs.ShapesAndIndexOrders.{in_box}
use Rattle.nd_shape_and_slice.specs.PlacesAndOverlaps.{place_of, IsSeparated}
use Rattle.nd_region.specs.declared.divided_mutable_borrow.Region.{Region}
use Rattle.nd_region.specs.RegionPlaces.{merged_rows, kept_where, names, names_not, HasDistinctPlaces, LayoutsShareNoPlace}
use Rattle.nd_region.specs.Region.{HasPlaces, IsPartWhere, rejoined_region}
use Rattle.nd_region.proofs.LayoutsSplitOff.{shown_apart, still_has, named_part_has}
use Rattle.uses_nd_region.specs.WritesToEvenOddAndColumns.{with_each, each_set, HasEach, HasFirst, HasPassing, HasAllButSecondColumn, second_column}
use Rattle.uses_nd_region.proofs.DistinctPlacesByStrides.{separated_distinct}
use Rattle.uses_nd_region.proofs.ListsWrittenOut.{twelve}
use Rattle.uses_nd_region.proofs.RegionSplitPlaces.{all_held, has_layout, parts_have, written_items}

separated : IsSeparated (3 ∷ 4 ∷ []) (pos 4 ∷ pos 1 ∷ [])
separated zero long = lit< tt
separated (suc zero) long = lit< tt
separated (suc (suc k)) long = absurd (not-suc-le-zero long)

distinct : HasDistinctPlaces 0 (3 ∷ 4 ∷ []) (pos 4 ∷ pos 1 ∷ [])
distinct = separated_distinct 0 (3 ∷ 4 ∷ []) (pos 4 ∷ pos 1 ∷ []) refl separated

-- an index of a column as one of the whole
abbrev in_column : ℕ → List ℕ → List ℕ
in_column c [] = []
in_column c (row ∷ rest) = row ∷ c ∷ []

shows : (c : ℕ) → nat_lt c 4 ≡ true → (i : List ℕ) → in_box (3 ∷ []) i ≡ true
    → (in_box (3 ∷ 4 ∷ []) (in_column c i) ≡ true) × (place_of c (pos 4 ∷ []) i ≡ place_of 0 (pos 4 ∷ pos 1 ∷ []) (in_column c i))
shows c below [] b = cc
shows c below (row ∷ []) b = (and_from (nat_lt row 3) (nat_lt c 4 && true) (and_parts (nat_lt row 3) true b).0 (and_from (nat_lt c 4) true below refl), omega (arith, ints))
shows c below (row ∷ k ∷ rest) b = absurd (no (nat_lt row 3) b)
  where
    no : (t : Bool) → (t && in_box [] (k ∷ rest)) ≡ true → ⊥
    no t e = let h = and_parts t (in_box [] (k ∷ rest)) e in cc

-- the second column and the fourth share no place
pub columns_apart : LayoutsShareNoPlace 1 (3 ∷ []) (pos 4 ∷ []) 3 (3 ∷ []) (pos 4 ∷ [])
columns_apart = shown_apart 0 (3 ∷ 4 ∷ []) (pos 4 ∷ pos 1 ∷ []) 1 (3 ∷ []) (pos 4 ∷ []) 3 (3 ∷ []) (pos 4 ∷ []) distinct (in_column 1) (in_column 3) (shows 1 refl) (shows 3 refl) differ
  where
    differ : (i j : List ℕ) → in_box (3 ∷ []) i ≡ true → in_box (3 ∷ []) j ≡ true → in_column 1 i ≡ in_column 3 j → ⊥
    differ [] j b c e = cc
    differ (x ∷ i) [] b c e = cc
    differ (x ∷ i) (y ∷ j) b c e = let one : 1 ≡ 3 = ap (λ l. get_or l 1 0) e in omega (arith, one)

pub fourth_has : (r x y : Region ℕ) → HasPlaces r 3 (3 ∷ []) (pos 4 ∷ []) → IsPartWhere (names 3 (3 ∷ []) (pos 4 ∷ [])) r x → HasEach x (3 ∷ 7 ∷ 11 ∷ [])
fourth_has r x y has part =
    let at = named_part_has r x 3 (3 ∷ []) (pos 4 ∷ []) has part in (at 3 refl, (at 7 refl, (at 11 refl, tt)))

pub second_has : (r : Region ℕ) → HasFirst 12 r → (x y : Region ℕ) → IsPartWhere (names 1 (3 ∷ []) (pos 4 ∷ [])) r x → IsPartWhere (names_not 1 (3 ∷ []) (pos 4 ∷ [])) r y
    → HasEach x second_column × HasAllButSecondColumn y
second_has r is x y named others = (
  (parts_have 12 r is 1 (3 ∷ []) (pos 4 ∷ []) (1 ∷ 5 ∷ 9 ∷ []) [] refl refl x y named others).0,
  (still_has 1 (3 ∷ []) (pos 4 ∷ []) 3 (3 ∷ []) (pos 4 ∷ []) columns_apart r y others (has_layout 12 r is 3 (3 ∷ []) (pos 4 ∷ []) refl), (r, is, others)),
)

-- the others, once the fourth column is written
pub fourth_done : (r : Region ℕ) → HasPassing (names_not 1 (3 ∷ []) (pos 4 ∷ [])) 12 r → (x y s t : Region ℕ) → IsPartWhere (names 3 (3 ∷ []) (pos 4 ∷ [])) r x → IsPartWhere (names_not 3 (3 ∷ []) (pos 4 ∷ [])) r y
    → s ≡ with_each x (3 ∷ 7 ∷ 11 ∷ []) 2 → t ≡ y → (rejoined_region r x s t).items ≡ each_set r.items (3 ∷ 7 ∷ 11 ∷ []) 2
fourth_done r is x y s t named others done_s done_t =
    let g = names 3 (3 ∷ []) (pos 4 ∷ []) in let h = names_not 1 (3 ∷ []) (pos 4 ∷ []) in
    let w = twelve r.items (ap length is.2.0 ∙ is.1.0) in let xs : List ℕ = w.0 ∷ w.1 ∷ w.2 ∷ w.3 ∷ w.4 ∷ w.5 ∷ w.6 ∷ w.7 ∷ w.8 ∷ w.9 ∷ w.10 ∷ w.11 ∷ [] in
    written_items r xs w.12 g (kept_where h (replicate 12 true)) (is.2.1 ∙ ap (kept_where h) (all_held 12 is.0 is.1)) (names_not 3 (3 ∷ []) (pos 4 ∷ [])) (3 ∷ 7 ∷ 11 ∷ []) [] 2 2 x y s t named others done_s done_t
    ∙ ap (λ l. each_set l (3 ∷ 7 ∷ 11 ∷ []) 2) (sym w.12)

-- the whole, once both are
pub columns_done : (r : Region ℕ) → HasFirst 12 r → (x y s t : Region ℕ) → IsPartWhere (names 1 (3 ∷ []) (pos 4 ∷ [])) r x → IsPartWhere (names_not 1 (3 ∷ []) (pos 4 ∷ [])) r y
    → s ≡ with_each x (1 ∷ 5 ∷ 9 ∷ []) 1 → t.items ≡ each_set y.items (3 ∷ 7 ∷ 11 ∷ []) 2 → (rejoined_region r x s t).items ≡ each_set (each_set r.items (1 ∷ 5 ∷ 9 ∷ []) 1) (3 ∷ 7 ∷ 11 ∷ []) 2
columns_done r is x y s t named others done_s done_t =
    let g = names 1 (3 ∷ []) (pos 4 ∷ []) in
    let w = twelve r.items is.0 in let xs : List ℕ = w.0 ∷ w.1 ∷ w.2 ∷ w.3 ∷ w.4 ∷ w.5 ∷ w.6 ∷ w.7 ∷ w.8 ∷ w.9 ∷ w.10 ∷ w.11 ∷ [] in
    let at_t : t.items ≡ each_set xs (3 ∷ 7 ∷ 11 ∷ []) 2 = done_t ∙ ap (λ l. each_set l (3 ∷ 7 ∷ 11 ∷ []) 2) (others.0 ∙ w.12) in
    let at_s : s.items ≡ each_set xs (1 ∷ 5 ∷ 9 ∷ []) 1 = ap (λ r. r.items) done_s ∙ ap (λ l. each_set l (1 ∷ 5 ∷ 9 ∷ []) 1) (named.0 ∙ w.12) in
    (λ i. merged_rows (named.1 i) (at_s i) (at_t i)) ∙ ap (λ fs. merged_rows (kept_where g fs) (each_set xs (1 ∷ 5 ∷ 9 ∷ []) 1) (each_set xs (3 ∷ 7 ∷ 11 ∷ []) 2)) (all_held 12 r is)
    ∙ ap (λ l. each_set (each_set l (1 ∷ 5 ∷ 9 ∷ []) 1) (3 ∷ 7 ∷ 11 ∷ []) 2) (sym w.12)

-- What a region's map is once one of its places is written, or two are swapped.
use mathlib.Core.Path.{◌≡◌, refl, sym, ap, ◌∙◌}
use Rattle.std.specs.Prelude.{ℕ, List, Bool, true, false, Option, Some, None, nat_eq, if◌then◌else◌}
use Rattle.std.specs.Option.{is_some}
use Rattle.std.specs.List.{swap}
use Rattle.std.specs.Cmp.{unsigned_Decides}
use Rattle.std.proofs.lemmas.List.Edits.{swap_is}
use lib.ListN.{set}
use Rattle.nd_region.specs.RegionPlaces.{stored_in}
use Rattle.nd_region.proofs.RegionContentsForCallers.{written_has, written_same, written_other, stored_at}

module _ {A : Type 0} where
  written_by : (xs : List A) (fs : List Bool) (p q : ℕ) (x : A) (t : Bool) → nat_eq q p ≡ t → is_some (stored_in xs fs p) ≡ true
      → stored_in (set xs p x) fs q ≡ if t then Some x else stored_in xs fs q
  written_by xs fs p q x true e has = ap (stored_in (set xs p x) fs) ((unsigned_Decides q p).0 e) ∙ written_same xs fs p x has
  written_by xs fs p q x false e has = written_other xs fs p q x (λ same. let yes : nat_eq q p ≡ true = (unsigned_Decides q p).1 same in cc)

  -- the place that is written holds the new element, and every other what it held
  pub written_map : (xs : List A) (fs : List Bool) (p q : ℕ) (x : A) → is_some (stored_in xs fs p) ≡ true → stored_in (set xs p x) fs q ≡ if nat_eq q p then Some x else stored_in xs fs q
  written_map xs fs p q x has = written_by xs fs p q x (nat_eq q p) refl has

  some_one : (o : Option A) → is_some o ≡ true → (x : A) × (o ≡ Some x)
  some_one None e = cc
  some_one (Some x) e = (x, refl)

  -- the two places hold each other's element, and every other what it held
  pub swapped_map : (xs : List A) (fs : List Bool) (p q r : ℕ) → is_some (stored_in xs fs p) ≡ true → is_some (stored_in xs fs q) ≡ true
      → stored_in (swap xs p q) fs r ≡ if nat_eq r q then stored_in xs fs p else (if nat_eq r p then stored_in xs fs q else stored_in xs fs r)
  swapped_map xs fs p q r has_p has_q =
      let one = some_one (stored_in xs fs p) has_p in let two = some_one (stored_in xs fs q) has_q in
      let a : A = one.0 in let b : A = two.0 in
      let from_p = stored_at xs fs p a a one.1 in let from_q = stored_at xs fs q b a two.1 in
      let made : swap xs p q ≡ set (set xs p b) q a = sym (swap_is xs p q a from_p.0 from_q.0) ∙ (λ i. set (set xs p (from_q.1 i)) q (from_p.1 i)) in
      ap (λ l. stored_in l fs r) made
      ∙ written_map (set xs p b) fs q r a (written_has xs fs p q b ∙ has_q)
      ∙ ap (λ o. if nat_eq r q then Some a else o) (written_map xs fs p r b has_p)
      ∙ (λ i. if nat_eq r q then sym one.1 i else (if nat_eq r p then sym two.1 i else stored_in xs fs r))

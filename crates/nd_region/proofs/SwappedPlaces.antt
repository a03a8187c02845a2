-- One place is split off, and the element there is swapped with one elsewhere.
use mathlib.Core.Path.{◌≡◌, refl, sym, ap, ◌∙◌}
use Rattle.std.specs.Prelude.{ℕ, zero, suc, List, [], ◌∷◌, Bool, true, false, not, Option, Some, None, length, nat_eq, if◌then◌else◌}
use Rattle.std.specs.Option.{is_some}
use Rattle.std.specs.List.{swap}
use Rattle.std.specs.Cmp.{unsigned_Decides}
use Rattle.std.proofs.lemmas.List.{set_comm, get_or-set_same, set-get_or}
use Rattle.std.proofs.lemmas.List.Edits.{swap_is}
use Rattle.std.proofs.lemmas.Bool.{ne_eqb}
use native.Mathlib.Omega.{arith}
use native.Mathlib.Nat.{not-suc-le-zero}
use lib.ListN.{set, get_or, length-set}
use Rattle.nd_region.specs.declared.divided_mutable_borrow.Region.{Region}
use Rattle.nd_region.specs.RegionPlaces.{element_in, stored_in, merged_rows, kept_where, names, names_not}
use Rattle.nd_region.specs.Region.{region_stored, with_items, IsPartWhere, SwappedBetween, rejoined_region}
use Rattle.nd_region.proofs.RegionContentsForCallers.{part_has, part_holds, stored_at, merged_rest, written_has}

-- a layout with no axes names its offset, and no other
pub names_itself : (p : ℕ) → names p [] [] p ≡ true
names_itself p = (unsigned_Decides p p).1 refl

pub names_no_other : (p q : ℕ) → (p ≡ q → ⊥) → names p [] [] q ≡ false
names_no_other p q ne = ne_eqb p q ne

module _ {A : Type 0} where
  pub swap_asks : (d x y : Region A) (p q : ℕ) → (p ≡ q → ⊥) → is_some (region_stored d p) ≡ true → is_some (region_stored d q) ≡ true → IsPartWhere (names p [] []) d x → IsPartWhere (names_not p [] []) d y
      → (is_some (region_stored x p) ≡ true) × (is_some (region_stored y q) ≡ true)
  swap_asks d x y p q ne at_p at_q first second = (
    (λ i. is_some (stored_in (first.0 i) (first.1 i) p)) ∙ part_has (names p [] []) d.items d.held p (names_itself p) at_p,
    (λ i. is_some (stored_in (second.0 i) (second.1 i) q)) ∙ part_has (names_not p [] []) d.items d.held q (ap not (names_no_other p q ne)) at_q,
  )

  -- where one place alone passes, the first row gives that place its element
  merged_one : (g : ℕ → Bool) (fs : List Bool) (ws vs : List A) (p : ℕ) (d : A) → length vs ≡ length ws → is_some (element_in ws fs p) ≡ true → g p ≡ true → ((k : ℕ) → (k ≡ p → ⊥) → g k ≡ false)
      → merged_rows (kept_where g fs) ws vs ≡ set vs p (get_or ws p d)
  merged_one g [] [] vs p d e has pass others = cc
  merged_one g [] (w ∷ ws) vs p d e has pass others = cc
  merged_one g (f ∷ fs) [] vs p d e has pass others = cc
  merged_one g (f ∷ fs) (w ∷ ws) [] p d e has pass others = let bad : 0 ≡ suc (length ws) = e in absurd (not-suc-le-zero {n = 0} (omega arith))
  merged_one g (true ∷ fs) (w ∷ ws) (v ∷ vs) zero d e has pass others =
      let i : suc (length vs) ≡ suc (length ws) = e in
      ap (λ (b : Bool). (if b then w else v) ∷ merged_rows (kept_where (λ k. g (suc k)) fs) ws vs) pass ∙ ap (λ (l : List A). w ∷ l) (merged_rest (λ k. g (suc k)) fs ws vs (omega arith) (λ k. others (suc k) (λ z. not-suc-le-zero {n = k} (omega arith))))
  merged_one g (false ∷ fs) (w ∷ ws) (v ∷ vs) zero d e has pass others = cc
  merged_one g (true ∷ fs) (w ∷ ws) (v ∷ vs) (suc p) d e has pass others =
      let i : suc (length vs) ≡ suc (length ws) = e in
      ap (λ (b : Bool). (if b then w else v) ∷ merged_rows (kept_where (λ k. g (suc k)) fs) ws vs) (others 0 (λ z. not-suc-le-zero {n = p} (omega arith)))
      ∙ ap (λ (l : List A). v ∷ l) (merged_one (λ k. g (suc k)) fs ws vs p d (omega arith) has pass (λ k ne. others (suc k) (λ z. ne (omega arith))))
  merged_one g (false ∷ fs) (w ∷ ws) (v ∷ vs) (suc p) d e has pass others =
      let i : suc (length vs) ≡ suc (length ws) = e in
      ap (λ (l : List A). v ∷ l) (merged_one (λ k. g (suc k)) fs ws vs p d (omega arith) has pass (λ k ne. others (suc k) (λ z. ne (omega arith))))

  pub merged_only : (g : ℕ → Bool) (xs : List A) (fs : List Bool) (p : ℕ) (x : A) (vs : List A) → length vs ≡ length xs → is_some (stored_in xs fs p) ≡ true → g p ≡ true → ((k : ℕ) → (k ≡ p → ⊥) → g k ≡ false)
      → merged_rows (kept_where g fs) xs vs ≡ set vs p (get_or xs p x)
  unfolding stored_in
  merged_only g xs fs p x vs e has pass others = merged_one g fs xs vs p x e has pass others

  at_part : (g : ℕ → Bool) (d r : Region A) (p : ℕ) (x : A) → g p ≡ true → IsPartWhere g d r → region_stored r p ≡ Some x → region_stored d p ≡ Some x
  at_part g d r p x pass part e = sym (part_holds g d.items d.held p pass) ∙ (λ i. stored_in (sym part.0 i) (sym part.1 i) p) ∙ e

  pub swap_done : (d x y s t : Region A) (p q : ℕ) → (p ≡ q → ⊥) → IsPartWhere (names p [] []) d x → IsPartWhere (names_not p [] []) d y → SwappedBetween x p y q (s, t, tt)
      → rejoined_region d x s t ≡ with_items d (swap d.items p q)
  swap_done d x y s t p q ne first second done =
      let xs : List A = d.items in let fs : List Bool = d.held in let g : ℕ → Bool = names p [] [] in let a : A = done.0 in let b : A = done.1 in
      let at_p : region_stored d p ≡ Some a = at_part g d x p a (names_itself p) first done.2 in
      let at_q : region_stored d q ≡ Some b = at_part (names_not p [] []) d y q b (ap not (names_no_other p q ne)) second done.3 in
      let from_p = stored_at xs fs p a a at_p in let from_q = stored_at xs fs q b a at_q in
      let ours : s.items ≡ set xs p b = ap (λ (r : Region A). r.items) done.4 ∙ ap (λ (l : List A). set l p b) first.0 in
      let theirs : t.items ≡ set xs q a = ap (λ (r : Region A). r.items) done.5 ∙ ap (λ (l : List A). set l q a) second.0 in
      let whole : merged_rows x.held s.items t.items ≡ swap xs p q =
      (λ i. merged_rows (first.1 i) (ours i) (theirs i))
      ∙ merged_only g (set xs p b) fs p a (set xs q a) (length-set xs q a ∙ sym (length-set xs p b)) (written_has xs fs p p b ∙ ap is_some at_p) (names_itself p) (λ k no. names_no_other p k (λ z. no (sym z)))
      ∙ ap (λ (w : A). set (set xs q a) p w) (get_or-set_same xs p b a from_p.0) ∙ sym (set_comm xs p q b a ne)
      ∙ (λ i. set (set xs p (sym from_q.1 i)) q (sym from_p.1 i)) ∙ swap_is xs p q a from_p.0 from_q.0 in
      ap (with_items d) whole

  some_one : (o : Option A) → is_some o ≡ true → (x : A) × (o ≡ Some x)
  some_one None e = cc
  some_one (Some x) e = (x, refl)

  -- a place swapped with itself
  pub swap_itself : (d : Region A) (p q : ℕ) → p ≡ q → is_some (region_stored d p) ≡ true → d ≡ with_items d (swap d.items p q)
  swap_itself d p q e has =
      let one = some_one (region_stored d p) has in let from = stored_at d.items d.held p one.0 one.0 one.1 in
      let same : swap d.items p p ≡ d.items = sym (swap_is d.items p p one.0 from.0 from.0) ∙ ap (λ (l : List A). set l p (get_or d.items p one.0)) (set-get_or d.items p one.0) ∙ set-get_or d.items p one.0 in
      ap (with_items d) (sym same ∙ ap (swap d.items p) e)

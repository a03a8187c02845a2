-- A part of a storage lent as a region: what the region has, and what the storage holds afterwards.
use Rattle.nd_elements.proofs.NamesFromOtherCrates.{◌≡◌, ℕ, zero, suc, true, List, [], ◌∷◌, ◌++◌, length, replicate, take, ℤ, pos, negsuc, refl, ap, sym, ◌∙◌, arith, not-suc-le-zero, take-append_seam, Option, None, is_some, slice_get, if◌then◌else◌, place_of, Region, stored_in, has_place, names, region_stored, borrow_of, IsWhole, IsPartWhere, IsAsLong, HasPlaces, whole_got, part_stored}
use Rattle.nd_elements.specs.StoragePlaces.{names_place, HoldsAll}
use Rattle.nd_elements.specs.ScopedStorageCalls.{with_named, IsNamedPart}

module _ {A : Type 0} where
  -- ---- a region that holds what a storage does
  module _ (m : ℕ → Option A) (r : Region A) (same : (p : ℕ) → region_stored r p ≡ m p) (offset : ℕ) (ns : List ℕ) (ss : List ℤ) where
    place_held : (z : ℤ) → names_place m z ≡ true → has_place (region_stored r) z ≡ true
    place_held (pos p) has = ap is_some (same p) ∙ has
    place_held (negsuc n) has = cc

    pub places_held : HoldsAll m offset ns ss → HasPlaces r offset ns ss
    places_held holds i h = place_held (place_of offset ss i) (holds i h)

    -- its part at the places of a layout is that of the storage
    pub part_is : (x : Region A) → IsPartWhere (names offset ns ss) r x → IsNamedPart m offset ns ss x
    part_is x part p = (λ i. stored_in (part.0 i) (part.1 i) p) ∙ part_stored (names offset ns ss) r.items r.held p ∙ ap (λ o. if names offset ns ss p then o else None) (same p)

    pub with_named_is : (left : ℕ → Option A) (p : ℕ) → with_named (region_stored r) offset ns ss left p ≡ with_named m offset ns ss left p
    with_named_is left p = ap (λ o. if names offset ns ss p then left p else o) (same p)

  -- ---- a region of a slice, before and after
  pub whole_holds : (r : Region A) (xs : List A) → IsWhole r xs → (p : ℕ) → region_stored r p ≡ slice_get xs p
  whole_holds r xs whole p = (λ i. stored_in (whole.0 i) (whole.1 i) p) ∙ whole_got xs p

  pub whole_left : (r s : Region A) (xs : List A) → IsWhole r xs → borrow_of s ≡ borrow_of r → IsAsLong r s → (p : ℕ) → region_stored s p ≡ slice_get s.items p
  whole_left r s xs whole same long p =
      ap (λ fs. stored_in s.items fs p) (ap (λ b. b.1) same ∙ whole.1 ∙ ap (λ n. replicate n true) (sym (long ∙ ap length whole.0))) ∙ whole_got s.items p

  -- a vector's elements once all of them are written
  pub all_written : (ys zs : List A) (n : ℕ) → length ys ≡ n → take n (ys ++ zs) ≡ ys
  all_written ys zs n e = ap (λ k. take k (ys ++ zs)) (sym e) ∙ take-append_seam ys zs

  -- a place has an element just where its number is below the length
  pub as_many_got : (xs ys : List A) (p : ℕ) → length ys ≡ length xs → is_some (slice_get ys p) ≡ is_some (slice_get xs p)
  as_many_got [] [] p e = refl
  as_many_got [] (y ∷ ys) p e = absurd (not-suc-le-zero {n = 0} (let bad : suc (length ys) ≡ 0 = e in omega arith))
  as_many_got (x ∷ xs) [] p e = absurd (not-suc-le-zero {n = 0} (let bad : 0 ≡ suc (length xs) = e in omega arith))
  as_many_got (x ∷ xs) (y ∷ ys) zero e = refl
  as_many_got (x ∷ xs) (y ∷ ys) (suc p) e = let i : suc (length ys) ≡ suc (length xs) = e in as_many_got xs ys p (omega arith)

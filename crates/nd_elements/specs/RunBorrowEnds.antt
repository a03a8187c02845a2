-- What a storage holds once a borrow of contiguous elements has ended.
use mathlib.Core.Path.{◌≡◌, refl, sym, ap, ◌∙◌}
use native.Mathlib.Omega.{arith}
use Rattle.std.specs.Prelude.{ℕ, zero, suc, ◌+◌, ◌-◌, ◌<◌, ◌≤◌, List, [], ◌∷◌, ◌++◌, Bool, true, false, length, take, drop, replicate, Option, Some, is_some, slice_get, slice_index_or, IsTrue}
use Rattle.std.specs.Borrow.{Fml, RattleType, MutBor, Lends, Array, follows}
use Rattle.std.specs.Vec.{with_items}
use Rattle.std.specs.declared.vec.Vec.{Vec}
use Rattle.nd_region.specs.declared.divided_mutable_borrow.Region.{Region}
use Rattle.nd_region.specs.RegionPlaces.{element_in, stored_in, overwritten_items, run_written}
use Rattle.nd_region.proofs.RegionContentsForCallers.{whole_got}
use Rattle.nd_region.proofs.OverwrittenElementList.{overwritten_by, nothing_written}
use Rattle.nd_elements.specs.OwnedStorageAfterBorrow.{written_from}
use Rattle.nd_elements.specs.OverwrittenStorageElements.{items_put, items_itself}

-- Says that the storage behind `s` ends as what `with_last`, which sets these elements, gives for the last elements of
-- the slice behind `r`.
abbrev pub run_ends : (S A : RattleType) {Kept : S.Denot → Type 0} → MutBor S.Denot → MutBor (List A.Denot) → (List A.Denot → (t : S.Denot) × Kept t) → Fml
run_ends S A s r with_last = Lends S (Array A 0) s r (λ ws. (with_last ws).0)

-- Says that the storage behind `s` ends as what `with_last`, which sets all elements, gives for the last elements of
-- the region `r`.
abbrev pub region_ends : (S A : RattleType) {Kept : S.Denot → Type 0} → MutBor S.Denot → Region A.Denot → (List A.Denot → (t : S.Denot) × Kept t) → Fml
region_ends S A s r with_last = follows S (Array A 0) s.ghost_name r.name (λ ws. (with_last ws).0)

-- Returns where the run of a number of places from `place` on begins: at `place`, and at 0 if the run is empty.
abbrev pub run_start : ℕ → ℕ → ℕ
run_start place zero = zero
run_start place (suc n) = place

-- Says that `stored` has an element at each of the `count` places from `place` on.
abbrev pub HasRunAt : {A : Type 0} → (ℕ → Option A) → ℕ → ℕ → Type 0
HasRunAt stored place count = (k : ℕ) → k < count → IsTrue (is_some (stored (place + k)))

-- Says that the items of `xs` are what `stored` has at the `count` places from `place` on.
abbrev pub IsRunAt : {A : Type 0} → (ℕ → Option A) → ℕ → ℕ → List A → Type 0
IsRunAt stored place count xs = (length xs ≡ count) × ((k : ℕ) → k < count → slice_get xs k ≡ stored (place + k))

-- Says that `stored` has at each of the `count` places from `place` on the item of `xs` with its number, whatever item
-- `d` stands in for one that is missing.
abbrev pub HasItemsAt : {A : Type 0} → (ℕ → Option A) → ℕ → ℕ → List A → Type 0
HasItemsAt {A} stored place count xs = (k : ℕ) (d : A) → k < count → stored (place + k) ≡ Some (slice_index_or xs k d)

-- Says that `p` is none of the `count` places from `place` on.
abbrev pub IsOutsideRun : ℕ → ℕ → ℕ → Type 0
IsOutsideRun place count p = (k : ℕ) → k < count → ¬ (p ≡ place + k)

module _ {A : Type 0} where
  there_is : (xs : List A) (fs : List Bool) (p : ℕ) → IsTrue (is_some (element_in xs fs p)) → p < length xs
  there_is [] fs p has = absurd cc
  there_is (x ∷ xs) [] p has = absurd cc
  there_is (x ∷ xs) (true ∷ fs) zero has = omega arith
  there_is (x ∷ xs) (false ∷ fs) zero has = absurd cc
  there_is (x ∷ xs) (true ∷ fs) (suc p) has = let r = there_is xs fs p has in omega (arith, r)
  there_is (x ∷ xs) (false ∷ fs) (suc p) has = let r = there_is xs fs p has in omega (arith, r)

  -- Returns the first `p` items of `xs`, then `ws`, then the items of `xs` from `m` on.
  abbrev around : List A → ℕ → ℕ → List A → List A
  around xs p m ws = take p xs ++ (ws ++ drop m xs)

  run_inside : (xs : List A) (fs : List Bool) (p m q k : ℕ) (ws : List A) → m ≡ p + length ws → q ≡ p + k → k < length ws → IsTrue (is_some (element_in xs fs q)) → element_in (around xs p m ws) fs q ≡ slice_get ws k
  run_inside [] fs p m q k ws long at below has = absurd cc
  run_inside (x ∷ xs) [] p m q k ws long at below has = absurd cc
  run_inside (x ∷ xs) (f ∷ fs) (suc p) zero q k ws long at below has = absurd (omega (arith, long))
  run_inside (x ∷ xs) (f ∷ fs) (suc p) (suc m) zero k ws long at below has = absurd (omega (arith, at))
  run_inside (x ∷ xs) (true ∷ fs) (suc p) (suc m) (suc q) k ws long at below has = run_inside xs fs p m q k ws (omega (arith, long)) (omega (arith, at)) below has
  run_inside (x ∷ xs) (false ∷ fs) (suc p) (suc m) (suc q) k ws long at below has = run_inside xs fs p m q k ws (omega (arith, long)) (omega (arith, at)) below has
  run_inside (x ∷ xs) (f ∷ fs) zero m q k [] long at below has = absurd (let bad : k < 0 = below in omega (arith, bad))
  run_inside (x ∷ xs) (f ∷ fs) zero zero q k (w ∷ ws) long at below has = absurd (let bad : 0 ≡ 0 + suc (length ws) = long in omega (arith, bad))
  run_inside (x ∷ xs) (f ∷ fs) zero (suc m) zero (suc k) (w ∷ ws) long at below has = absurd (omega (arith, at))
  run_inside (x ∷ xs) (f ∷ fs) zero (suc m) (suc q) zero (w ∷ ws) long at below has = absurd (omega (arith, at))
  run_inside (x ∷ xs) (true ∷ fs) zero (suc m) zero zero (w ∷ ws) long at below has = refl
  run_inside (x ∷ xs) (false ∷ fs) zero (suc m) zero zero (w ∷ ws) long at below has = absurd cc
  run_inside (x ∷ xs) (true ∷ fs) zero (suc m) (suc q) (suc k) (w ∷ ws) long at below has =
      let e : suc m ≡ 0 + suc (length ws) = long in let l : suc k < suc (length ws) = below in run_inside xs fs zero m q k ws (omega (arith, e)) (omega (arith, at)) (omega (arith, l)) has
  run_inside (x ∷ xs) (false ∷ fs) zero (suc m) (suc q) (suc k) (w ∷ ws) long at below has =
      let e : suc m ≡ 0 + suc (length ws) = long in let l : suc k < suc (length ws) = below in run_inside xs fs zero m q k ws (omega (arith, e)) (omega (arith, at)) (omega (arith, l)) has

  run_outside : (xs : List A) (fs : List Bool) (p m q : ℕ) (ws : List A) → m ≡ p + length ws → m ≤ length xs → ((k : ℕ) → k < length ws → ¬ (q ≡ p + k)) → element_in (around xs p m ws) fs q ≡ element_in xs fs q
  run_outside [] fs (suc p) m q ws long room outside = absurd (let bad : m ≤ 0 = room in omega (arith, bad, long))
  run_outside [] fs zero m q [] long room outside = by_end m
    where
      by_end : (m : ℕ) → element_in (around [] zero m []) fs q ≡ element_in [] fs q
      by_end zero = refl
      by_end (suc m) = refl
  run_outside [] fs zero m q (w ∷ ws) long room outside = absurd (let bad : m ≤ 0 = room in let e : m ≡ 0 + suc (length ws) = long in omega (arith, bad, e))
  run_outside (x ∷ xs) fs (suc p) zero q ws long room outside = absurd (omega (arith, long))
  run_outside (x ∷ xs) [] (suc p) (suc m) q ws long room outside = refl
  run_outside (x ∷ xs) (true ∷ fs) (suc p) (suc m) zero ws long room outside = refl
  run_outside (x ∷ xs) (false ∷ fs) (suc p) (suc m) zero ws long room outside = refl
  run_outside (x ∷ xs) (true ∷ fs) (suc p) (suc m) (suc q) ws long room outside =
      let r : suc m ≤ suc (length xs) = room in run_outside xs fs p m q ws (omega (arith, long)) (omega (arith, r)) (λ k below e. outside k below (omega (arith, e)))
  run_outside (x ∷ xs) (false ∷ fs) (suc p) (suc m) (suc q) ws long room outside =
      let r : suc m ≤ suc (length xs) = room in run_outside xs fs p m q ws (omega (arith, long)) (omega (arith, r)) (λ k below e. outside k below (omega (arith, e)))
  run_outside (x ∷ xs) fs zero zero q [] long room outside = refl
  run_outside (x ∷ xs) fs zero (suc m) q [] long room outside = absurd (let bad : suc m ≡ 0 + 0 = long in omega (arith, bad))
  run_outside (x ∷ xs) fs zero zero q (w ∷ ws) long room outside = absurd (let bad : 0 ≡ 0 + suc (length ws) = long in omega (arith, bad))
  run_outside (x ∷ xs) [] zero (suc m) q (w ∷ ws) long room outside = refl
  run_outside (x ∷ xs) (f ∷ fs) zero (suc m) zero (w ∷ ws) long room outside = absurd (outside 0 (let l : 0 < suc (length ws) = omega arith in l) (omega arith))
  run_outside (x ∷ xs) (true ∷ fs) zero (suc m) (suc q) (w ∷ ws) long room outside =
      let e : suc m ≡ 0 + suc (length ws) = long in let r : suc m ≤ suc (length xs) = room in
      run_outside xs fs zero m q ws (omega (arith, e)) (omega (arith, r)) (λ k below same. outside (suc k) (let l : suc k < suc (length ws) = omega (arith, below) in l) (omega (arith, same)))
  run_outside (x ∷ xs) (false ∷ fs) zero (suc m) (suc q) (w ∷ ws) long room outside =
      let e : suc m ≡ 0 + suc (length ws) = long in let r : suc m ≤ suc (length xs) = room in
      run_outside xs fs zero m q ws (omega (arith, e)) (omega (arith, r)) (λ k below same. outside (suc k) (let l : suc k < suc (length ws) = omega (arith, below) in l) (omega (arith, same)))

  run_long : (xs : List A) (p m : ℕ) (ws : List A) → m ≡ p + length ws → m ≤ length xs → length (around xs p m ws) ≡ length xs
  run_long [] (suc p) m ws long room = absurd (let bad : m ≤ 0 = room in omega (arith, bad, long))
  run_long [] zero m (w ∷ ws) long room = absurd (let bad : m ≤ 0 = room in let e : m ≡ 0 + suc (length ws) = long in omega (arith, bad, e))
  run_long [] zero zero [] long room = refl
  run_long [] zero (suc m) [] long room = refl
  run_long (x ∷ xs) (suc p) zero ws long room = absurd (omega (arith, long))
  run_long (x ∷ xs) (suc p) (suc m) ws long room = let r : suc m ≤ suc (length xs) = room in ap suc (run_long xs p m ws (omega (arith, long)) (omega (arith, r)))
  run_long (x ∷ xs) zero zero [] long room = refl
  run_long (x ∷ xs) zero (suc m) [] long room = absurd (let bad : suc m ≡ 0 + 0 = long in omega (arith, bad))
  run_long (x ∷ xs) zero zero (w ∷ ws) long room = absurd (let bad : 0 ≡ 0 + suc (length ws) = long in omega (arith, bad))
  run_long (x ∷ xs) zero (suc m) (w ∷ ws) long room =
      let e : suc m ≡ 0 + suc (length ws) = long in let r : suc m ≤ suc (length xs) = room in ap suc (run_long xs zero m ws (omega (arith, e)) (omega (arith, r)))

  -- A region with the elements `xs` and the mask `held`, in which the elements from `place` on are replaced by `ws`.
  module _ (xs : List A) (held : List Bool) (place : ℕ) where
    last_inside : (count : ℕ) → 0 < count → HasRunAt (stored_in xs held) place count → place + count ≤ length xs
    unfolding stored_in
    last_inside count some holds = let last = there_is xs held (place + (count - 1)) (holds (count - 1) (omega (arith, some))) in omega (arith, last, some)

    as_long : (count : ℕ) (ws : List A) → HasRunAt (stored_in xs held) place count → length ws ≡ count → length (run_written xs place count ws) ≡ length xs
    as_long zero [] holds long = ap length (nothing_written xs place)
    as_long zero (w ∷ ws) holds long = absurd (let bad : suc (length ws) ≡ 0 = long in omega (arith, bad))
    as_long (suc n) ws holds long = run_long xs place (place + suc n) ws (ap (λ k. place + k) (sym long)) (last_inside (suc n) (omega arith) holds)

    -- The list in which the run is written is as long as `xs`, so that `xs` overwritten with it is that list.
    kept_by : (count : ℕ) (ws : List A) → HasRunAt (stored_in xs held) place count → length ws ≡ count → overwritten_items xs (run_written xs place count ws) ≡ run_written xs place count ws
    kept_by count ws holds long = overwritten_by xs (run_written xs place count ws) (as_long count ws holds long)

    -- A region in which a run is set to `ws` has the items of `ws` at the places of the run.
    pub places_run : (count : ℕ) (ws : List A) → HasRunAt (stored_in xs held) place count → length ws ≡ count → (k : ℕ) → k < count → stored_in (overwritten_items xs (run_written xs place count ws)) held (place + k) ≡ slice_get ws k
    unfolding stored_in
    places_run count ws holds long k below =
        ap (λ ys. element_in ys held (place + k)) (kept_by count ws holds long)
        ∙ run_inside xs held place (place + count) (place + k) k ws (ap (λ n. place + n) (sym long)) refl (omega (arith, long, below)) (holds k below)

    outside_written : (count : ℕ) (ws : List A) → HasRunAt (stored_in xs held) place count → length ws ≡ count → (p : ℕ) → IsOutsideRun place count p → element_in (run_written xs place count ws) held p ≡ element_in xs held p
    outside_written zero [] holds long p outside = ap (λ ys. element_in ys held p) (nothing_written xs place)
    outside_written zero (w ∷ ws) holds long p outside = absurd (let bad : suc (length ws) ≡ 0 = long in omega (arith, bad))
    outside_written (suc n) ws holds long p outside =
        run_outside xs held place (place + suc n) p ws (ap (λ k. place + k) (sym long)) (last_inside (suc n) (omega arith) holds) (λ k below. outside k (omega (arith, long, below)))

    -- A region in which a run is set to `ws` has its old elements outside the run.
    pub places_outside_run : (count : ℕ) (ws : List A) → HasRunAt (stored_in xs held) place count → length ws ≡ count → (p : ℕ) → IsOutsideRun place count p → stored_in (overwritten_items xs (run_written xs place count ws)) held p ≡ stored_in xs held p
    unfolding stored_in
    places_outside_run count ws holds long p outside = ap (λ ys. element_in ys held p) (kept_by count ws holds long) ∙ outside_written count ws holds long p outside

  -- To drop `p` items and then `n` is to drop `p + n` at once.
  drop_both : (n p m : ℕ) (xs : List A) → m ≡ p + n → drop n (drop p xs) ≡ drop m xs
  drop_both n zero m xs e = ap (λ k. drop k xs) (let same : n ≡ m = omega (arith, e) in same)
  drop_both n (suc p) zero xs e = absurd (omega (arith, e))
  drop_both zero (suc p) (suc m) [] e = refl
  drop_both (suc n) (suc p) (suc m) [] e = refl
  drop_both n (suc p) (suc m) (x ∷ xs) e = drop_both n p m xs (omega (arith, e))

  -- A vector `v` in which the items from `place` on are replaced by `ws`.
  module _ {Z : Type 0} (v : Vec A Z) (place : ℕ) where
    abbrev all : List Bool
    all = replicate (length v.items) true

    all_held : (count : ℕ) → HasRunAt (slice_get v.items) place count → HasRunAt (stored_in v.items all) place count
    all_held count holds k below = ap is_some (whole_got v.items (place + k)) ∙ holds k below

    module _ (n : ℕ) (ws : List A) (holds : HasRunAt (slice_get v.items) place (suc n)) (long : length ws ≡ suc n) where
      same_run : written_from v.items place ws ≡ run_written v.items place (suc n) ws
      same_run = ap (λ rest. take place v.items ++ (ws ++ rest)) (drop_both (length ws) place (place + suc n) v.items (ap (λ k. place + k) (sym long)))

      kept_long : length (run_written v.items place (suc n) ws) ≡ length v.items
      kept_long = as_long v.items all place (suc n) ws (all_held (suc n) holds) long

      got : (p : ℕ) → slice_get (with_items v (written_from v.items place ws)).items p ≡ stored_in (overwritten_items v.items (run_written v.items place (suc n) ws)) all p
      got p =
          ap (λ ys. slice_get ys p) (items_put v (written_from v.items place ws) (ap length same_run ∙ kept_long))
          ∙ ap (λ ys. slice_get ys p) same_run
          ∙ sym (whole_got (run_written v.items place (suc n) ws) p)
          ∙ ap (λ k. stored_in (run_written v.items place (suc n) ws) (replicate k true) p) kept_long
          ∙ ap (λ ys. stored_in ys all p) (sym (kept_by v.items all place (suc n) ws (all_held (suc n) holds) long))

    -- A vector in which a run is set to `ws` has the items of `ws` at the places of the run.
    pub items_run : (count : ℕ) (ws : List A) → HasRunAt (slice_get v.items) place count → length ws ≡ count → (k : ℕ) → k < count → slice_get (with_items v (written_from v.items (run_start place count) ws)).items (place + k) ≡ slice_get ws k
    items_run zero ws holds long k below = absurd (omega (arith, below))
    items_run (suc n) ws holds long k below = got n ws holds long (place + k) ∙ places_run v.items all place (suc n) ws (all_held (suc n) holds) long k below

    -- A vector in which a run is set to `ws` has its old items outside the run.
    pub items_outside_run : (count : ℕ) (ws : List A) → HasRunAt (slice_get v.items) place count → length ws ≡ count → (p : ℕ) → IsOutsideRun place count p → slice_get (with_items v (written_from v.items (run_start place count) ws)).items p ≡ slice_get v.items p
    items_outside_run zero [] holds long p outside = ap (λ u. slice_get u.items p) (items_itself v)
    items_outside_run zero (w ∷ ws) holds long p outside = absurd (let bad : suc (length ws) ≡ 0 = long in omega (arith, bad))
    items_outside_run (suc n) ws holds long p outside = got n ws holds long p ∙ places_outside_run v.items all place (suc n) ws (all_held (suc n) holds) long p outside ∙ whole_got v.items p

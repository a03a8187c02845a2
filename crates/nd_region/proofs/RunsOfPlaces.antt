-- A run of places: where it starts, and that the row is cut round it and glued again. Assumes `Logic`.
use Rattle.nd_region.proofs.SeparationLogicImports.{◌≡◌, refl, sym, ap, subst, ◌∙◌, Bool, true, false, not, ℕ, zero, suc, ◌+◌, ◌-◌, ◌*◌, ◌<◌, ◌≤◌, ◌^◌, T, eqb, capped, capped_is, Room, List, [], ◌∷◌, length, take, get_or, replicate, length-drop, length-replicate, get_or-replicate}
use native.Mathlib.Omega.{arith}
use native.Mathlib.Nat.{zero-mul, suc-mul, not-suc-le-zero, mul-le-mul_right}
use Rattle.std.proofs.mem.Param.{El, R}
use lib.ListN.{drop as drop_l}
use Rattle.std.proofs.lemmas.List.{length-take-le, get_or-take, get_or-drop, ext_get_or}
use Rattle.std.specs.Prelude.{Some}
use Rattle.std.specs.Option.{is_some}
use Rattle.nd_region.specs.RegionPlaces.{element_in, stored_in, run_written}
use Rattle.nd_region.proofs.OverwrittenElementList.{nothing_written}
use Rattle.nd_region.proofs.RegionValueAndPlaces.{Held, held_at, told, below, sz}
use Rattle.nd_region.proofs.RegionContentsForCallers.{stored_at}

in_mask_at : {X : Type 0} (xs : List X) (fs : List Bool) (i : ℕ) (x : X) → element_in xs fs i ≡ Some x → get_or fs i false ≡ true
in_mask_at [] fs i x e = cc
in_mask_at (y ∷ xs) [] i x e = cc
in_mask_at (y ∷ xs) (true ∷ fs) zero x e = refl
in_mask_at (y ∷ xs) (false ∷ fs) zero x e = cc
in_mask_at (y ∷ xs) (true ∷ fs) (suc i) x e = in_mask_at xs fs i x e
in_mask_at (y ∷ xs) (false ∷ fs) (suc i) x e = in_mask_at xs fs i x e

-- the run of n places from p on, which starts at st
pub record IsAt {X : Type 0} (xs : List X) (fs : List Bool) (p n st : ℕ) : Type 0 where
  pub in_row : st + n ≤ length xs
  pub in_mask : st + n ≤ length fs
  pub full : take n (drop_l st fs) ≡ replicate n true
  pub values : (k : ℕ) (d : X) → k < n → stored_in xs fs (p + k) ≡ Some (get_or (take n (drop_l st xs)) k d)
  pub same : (ws : List X) → length ws ≡ n → run_written xs p n ws ≡ run_written xs st n ws

module _ {X : Type 0} (xs : List X) (fs : List Bool) (p n : ℕ) where
  empty_list : (ws : List X) → length ws ≡ 0 → ws ≡ []
  empty_list [] e = refl
  empty_list (w ∷ ws) e = let bad : suc (length ws) ≡ 0 = e in absurd (not-suc-le-zero {n = 0} (omega arith))

  -- an empty one starts at the first place
  pub at_first : n ≡ 0 → IsAt xs fs p n 0
  at_first e = subst (λ (m : ℕ). IsAt xs fs p m 0) (sym e) (record {
    in_row = omega arith;
    in_mask = omega arith;
    full = refl;
    values = λ k d lt. absurd (not-suc-le-zero lt);
    same = λ ws l. ap (run_written xs p 0) (empty_list ws l) ∙ nothing_written xs p ∙ sym (nothing_written xs 0) ∙ sym (ap (run_written xs 0 0) (empty_list ws l));
  })

  module _ (pos_n : 0 < n) (has : (k : ℕ) → k < n → is_some (stored_in xs fs (p + k)) ≡ true) where
    at_k : (k : ℕ) → k < n → Held xs fs (p + k)
    at_k k lt = held_at xs fs (p + k) (has k lt)

    ends : (p + n ≤ length fs) × (p + n ≤ length xs)
    ends = let g = at_k (n - 1) (omega arith) in let lt = below xs fs (p + (n - 1)) g.1 in (omega (arith, lt.0), omega (arith, lt.1))

    masks : take n (drop_l p fs) ≡ replicate n true
    masks =
        let long : length (take n (drop_l p fs)) ≡ n = length-take-le n (drop_l p fs) (omega (arith, length-drop p fs, ends.0)) in
        ext_get_or false (take n (drop_l p fs)) (replicate n true) (long ∙ sym (length-replicate n true)) (λ k lt.
        let lt' : k < n = subst (λ (m : ℕ). k < m) long lt in
        get_or-take n (drop_l p fs) k false lt' ∙ get_or-drop p fs k false ∙ in_mask_at xs fs (p + k) (at_k k lt').0 (at_k k lt').1 ∙ sym (get_or-replicate n k true false lt'))

    reads : (k : ℕ) (d : X) → k < n → stored_in xs fs (p + k) ≡ Some (get_or (take n (drop_l p xs)) k d)
    reads k d lt =
        let g = at_k k lt in
        told xs fs (p + k) g ∙ ap (λ (x : X). Some x) (sym (get_or-take n (drop_l p xs) k d lt ∙ get_or-drop p xs k d ∙ (stored_at xs fs (p + k) g.0 d (told xs fs (p + k) g)).1))

    -- another one at its own first place
    pub at_place : IsAt xs fs p n p
    at_place = record { in_row = ends.1; in_mask = ends.0; full = masks; values = reads; same = λ ws l. refl }

-- a run's start and its elements have room where the whole row has
pub start_fits : (len s st : ℕ) → len * s < 2 ^ 63 → st ≤ len → st * s < 2 ^ 64
start_fits len s st fit le = let small : st * s ≤ len * s = mul-le-mul_right s le in omega arith

pub start_word : (len st : ℕ) → len < 2 ^ 64 → st ≤ len → st < 2 ^ 64
start_word len st fit le = omega arith

pub run_room : (E : El) (len n : ℕ) → len < 2 ^ 64 → len * sz E < 2 ^ 63 → n ≤ len → Room (R E) n
run_room E len n small fit le = let bytes : n * sz E ≤ len * sz E = mul-le-mul_right (sz E) le in (omega arith, omega arith)

-- where the product fits a word, the count is zero or the size fits too
pub uncapped : (i k : ℕ) → i * k < 2 ^ 64 → i * capped k ≡ i * k
uncapped zero k h = zero-mul (capped k) ∙ sym (zero-mul k)
uncapped (suc i) k h = let step = suc-mul i k in ap (λ (j : ℕ). suc i * j) (capped_is k (omega arith))

pub above_zero : (n : ℕ) → T (not (eqb n 0)) → 0 < n
above_zero zero t = absurd t
above_zero (suc n) t = omega arith

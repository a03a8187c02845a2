-- A run of places leaves a region as a `&mut` slice, and what it comes from follows. Assumes `Logic`.
use Rattle.nd_region.proofs.SeparationLogicImports.{◌≡◌, refl, sym, ap, ◌∙◌, Bool, true, ℕ, suc, ◌+◌, ◌*◌, List, [], ◌∷◌, ◌++◌, length, take, replicate, take-append-drop, length-drop, length-append, length-replicate, Ura, Gv, coded_list, Lifetime, ent, sep, Lft, GName, Share, Fml, ftrue, fsep, flft, fobs, fbor, Logic, sem, Item, ‵, some, later, ◌⊛◌, ◌$◌, ◌∵◌, !, qed, move, keep, drop, use1, use2, split, split3, rewrite, group, await, updating, show, mean, pick, fsplit, fjoin, feq_l, feq_i, now, done, SemTy, cells, Arr, Body, open_ref, takes_part, Array, follows, slice_of, mem, block_ptr, MutSlice, Room, slice_val, nothing}
use native.Mathlib.Omega.{arith}
use native.Mathlib.Nat.{zero-mul, suc-mul, not-suc-le-zero}
use lib.ListN.{drop as drop_l}
use Rattle.std.proofs.lemmas.List.{length-take-le, drop-drop}
use Rattle.std.proofs.mem.Param.{El, R, el_x}
use Rattle.nd_region.specs.RegionMemory.{spot, Spots, loan}
use Rattle.nd_region.specs.RegionPlaces.{overwritten_items, run_written}
use Rattle.nd_region.proofs.RegionValueAndPlaces.{sz, row_at, of_cells, to_cells}
use Rattle.nd_region.proofs.RunsOfPlaces.{IsAt}
use Rattle.nd_region.proofs.OverwrittenElementList.{overwritten_by}

module _ (E : El) {M : Type 1} {𝓤 : Ura M} (𝓛 : Logic 𝓤) (b : ℕ) where
  open 𝓛 use {H, A}

  abbrev s : ℕ
  s = sz E

  abbrev Row : ℕ → List (el_x E) → List Bool → Fml
  Row o xs fs = row_at E b o xs fs

  cut : (xs ys : List (el_x E)) (fs gs : List Bool) (o at : ℕ) → length fs ≡ length xs → at ≡ length xs * s + o → ent 𝓤 (sem 𝓛 (Row o (xs ++ ys) (fs ++ gs))) (sep 𝓤 (sem 𝓛 (Row o xs fs)) (sem 𝓛 (Row at ys gs)))
  cut [] ys [] gs o at l e = let same : o ≡ at = omega (arith, zero-mul s, e) in qed 𝓛 (‵ (Row o ys gs) ∷ []) ∵ rewrite ! 0 (λ (k : ℕ). ‵ (Row k ys gs)) same refl $ nothing ! $ done !
  cut [] ys (f ∷ fs) gs o at l e = let bad : suc (length fs) ≡ 0 = l in absurd (not-suc-le-zero {n = 0} (omega arith))
  cut (x ∷ xs) ys [] gs o at l e = let bad : 0 ≡ suc (length xs) = l in absurd (not-suc-le-zero {n = 0} (omega arith))
  cut (x ∷ xs) ys (f ∷ fs) gs o at l e =
      let l' : suc (length fs) ≡ suc (length xs) = l in let more : at ≡ suc (length xs) * s + o = e in
      qed 𝓛 (‵ (spot (R E) f (block_ptr b o) x) ∷ ‵ (Row (o + s) (xs ++ ys) (fs ++ gs)) ∷ []) ∵ move ! (1 ∷ []) $
      use1 𝓛 (‵ (Row (o + s) xs fs) ⊛ ‵ (Row at ys gs)) (cut xs ys fs gs (o + s) at (omega arith) (omega (arith, suc-mul (length xs) s))) $ split ! $ move ! (2 ∷ 0 ∷ []) $ fjoin ! $ done !

  glue : (xs ys : List (el_x E)) (fs gs : List Bool) (o at : ℕ) → length fs ≡ length xs → at ≡ length xs * s + o → ent 𝓤 (sep 𝓤 (sem 𝓛 (Row o xs fs)) (sem 𝓛 (Row at ys gs))) (sem 𝓛 (Row o (xs ++ ys) (fs ++ gs)))
  glue [] ys [] gs o at l e = let same : at ≡ o = omega (arith, zero-mul s, e) in qed 𝓛 (‵ ftrue ∷ ‵ (Row at ys gs) ∷ []) ∵ drop ! $ rewrite ! 0 (λ (k : ℕ). ‵ (Row k ys gs)) same refl $ done !
  glue [] ys (f ∷ fs) gs o at l e = let bad : suc (length fs) ≡ 0 = l in absurd (not-suc-le-zero {n = 0} (omega arith))
  glue (x ∷ xs) ys [] gs o at l e = let bad : 0 ≡ suc (length xs) = l in absurd (not-suc-le-zero {n = 0} (omega arith))
  glue (x ∷ xs) ys (f ∷ fs) gs o at l e =
      let l' : suc (length fs) ≡ suc (length xs) = l in let more : at ≡ suc (length xs) * s + o = e in
      qed 𝓛 (‵ (Row o (x ∷ xs) (f ∷ fs)) ∷ ‵ (Row at ys gs) ∷ []) ∵ fsplit ! $ move ! (1 ∷ 2 ∷ []) $
      use2 𝓛 (‵ (Row (o + s) (xs ++ ys) (fs ++ gs))) (glue xs ys fs gs (o + s) at (omega arith) (omega (arith, suc-mul (length xs) s))) $ move ! (1 ∷ 0 ∷ []) $ fjoin ! $ done !

  module _ (xs : List (el_x E)) (fs : List Bool) (p n st : ℕ) (at : IsAt xs fs p n st) (o : ℕ) where
    abbrev pub run : List (el_x E)
    run = take n (drop_l st xs)

    abbrev pub there : ℕ
    there = st * s + o

    pub count : length run ≡ n
    count = length-take-le n (drop_l st xs) (omega (arith, length-drop st xs, at.in_row))

    front : length (take st xs) ≡ st
    front = length-take-le st xs (omega (arith, at.in_row))

    front_mask : length (take st fs) ≡ length (take st xs)
    front_mask = length-take-le st fs (omega (arith, at.in_mask)) ∙ sym front

    parts : {X : Type 0} (l : List X) → l ≡ take st l ++ (take n (drop_l st l) ++ drop_l (st + n) l)
    parts l = sym (take-append-drop st l) ∙ ap (λ r. take st l ++ r) (sym (take-append-drop n (drop_l st l)) ∙ ap (λ r. take n (drop_l st l) ++ r) (drop-drop n st l))

    mask_parts : fs ≡ take st fs ++ (replicate n true ++ drop_l (st + n) fs)
    mask_parts = parts fs ∙ ap (λ r. take st fs ++ (r ++ drop_l (st + n) fs)) at.full

    abbrev pub Around : Fml
    Around = fsep (Row o (take st xs) (take st fs)) (Row (n * s + there) (drop_l (st + n) xs) (drop_l (st + n) fs))

    on : (k : ℕ) → k ≡ st → there ≡ k * s + o
    on k e = ap (λ m. m * s + o) (sym e)

    pub run_out : ent 𝓤 (sem 𝓛 (Row o xs fs)) (sep 𝓤 (sem 𝓛 (cells (mem (R E)) run b there)) (sem 𝓛 Around))
    run_out = qed 𝓛 (‵ (Row o xs fs) ∷ []) ∵
        rewrite ! 0 (λ (l : List (el_x E)). ‵ (Row o l fs)) (parts xs) refl $ rewrite ! 0 (λ (m : List Bool). ‵ (Row o (take st xs ++ (run ++ drop_l (st + n) xs)) m)) mask_parts refl $
        use1 𝓛 (‵ (Row o (take st xs) (take st fs)) ⊛ ‵ (Row there (run ++ drop_l (st + n) xs) (replicate n true ++ drop_l (st + n) fs)))
        (cut (take st xs) (run ++ drop_l (st + n) xs) (take st fs) (replicate n true ++ drop_l (st + n) fs) o there front_mask (on (length (take st xs)) front)) $ split ! $ move ! (1 ∷ []) $
        use1 𝓛 (‵ (Row there run (replicate n true)) ⊛ ‵ (Row (n * s + there) (drop_l (st + n) xs) (drop_l (st + n) fs)))
        (cut run (drop_l (st + n) xs) (replicate n true) (drop_l (st + n) fs) there (n * s + there) (length-replicate n true ∙ sym count) (ap (λ k. k * s + there) (sym count))) $ split ! $
        use1 𝓛 (‵ (cells (mem (R E)) run b there)) (to_cells E 𝓛 b run n there count) $ move ! (2 ∷ 1 ∷ []) $ fjoin ! $ move ! (1 ∷ []) $ done !

    written_length : (ws : List (el_x E)) → length ws ≡ n → length (run_written xs p n ws) ≡ length xs
    written_length ws l = ap length (at.same ws l) ∙ omega (arith, length-append (take st xs) (ws ++ drop_l (st + n) xs), length-append ws (drop_l (st + n) xs), front, l, length-drop (st + n) xs, at.in_row)

    abbrev put : List (el_x E) → List (el_x E)
    put ws = overwritten_items xs (run_written xs p n ws)

    pub run_in : (ws : List (el_x E)) → length ws ≡ n → ent 𝓤 (sep 𝓤 (sem 𝓛 (cells (mem (R E)) ws b there)) (sem 𝓛 Around)) (sem 𝓛 (Row o (run_written xs p n ws) fs))
    run_in ws l = qed 𝓛 (‵ (cells (mem (R E)) ws b there) ∷ ‵ Around ∷ []) ∵
        use1 𝓛 (‵ (Row there ws (replicate (length ws) true))) (of_cells E 𝓛 b ws there) $ rewrite ! 0 (λ (k : ℕ). ‵ (Row there ws (replicate k true))) l refl $
        move ! (1 ∷ []) $ fsplit ! $ move ! (2 ∷ 1 ∷ []) $
        use2 𝓛 (‵ (Row there (ws ++ drop_l (st + n) xs) (replicate n true ++ drop_l (st + n) fs)))
        (glue ws (drop_l (st + n) xs) (replicate n true) (drop_l (st + n) fs) there (n * s + there) (length-replicate n true ∙ sym l) (ap (λ k. k * s + there) (sym l))) $ move ! (1 ∷ 0 ∷ []) $
        use2 𝓛 (‵ (Row o (run_written xs st n ws) (take st fs ++ (replicate n true ++ drop_l (st + n) fs))))
        (glue (take st xs) (ws ++ drop_l (st + n) xs) (take st fs) (replicate n true ++ drop_l (st + n) fs) o there front_mask (on (length (take st xs)) front)) $
        rewrite ! 0 (λ (m : List Bool). ‵ (Row o (run_written xs st n ws) m)) (sym mask_parts) refl $ rewrite ! 0 (λ (r : List (el_x E)). ‵ (Row o r fs)) (sym (at.same ws l)) refl $ done !

    module _ (ℓ : Lifetime) (κ : Lft) (q : Share) (γ : GName) (rm : Room (R E) (length run)) where
      abbrev Whole : SemTy
      Whole = Spots (R E) (block_ptr b o) fs

      abbrev Some : SemTy
      Some = Arr (mem (R E)) (length run)

      abbrev code_of : List (el_x E) → Gv
      code_of = (coded_list (R E).coded).code

      abbrev pub RunLent : GName → Item 𝓤
      RunLent δ = ‵ ((MutSlice ℓ κ (R E)).own_val (record { ref_ptr = (b, there); ghost_name = δ; now = run }) (slice_val (b, there) (length run) ∷ [])) ⊛ ‵ (flft κ q)
          ⊛ ‵ (follows (Array (R E) 0) (Array (R E) 0) γ δ put)

      back : length xs ≡ length fs → (ws : List (el_x E)) → ent 𝓤 (sep 𝓤 (sem 𝓛 (Some.own_at ws b there)) (sem 𝓛 Around)) (sem 𝓛 (Whole.own_at (put ws) 0 0))
      back long ws = qed 𝓛 (‵ (Some.own_at ws b there) ∷ ‵ Around ∷ []) ∵ fsplit ! $ feq_l ! (λ e. let l : length ws ≡ n = e ∙ count in
          use2 𝓛 (‵ (Row o (run_written xs p n ws) fs)) (run_in ws l) $ feq_i ! ℕ (length (run_written xs p n ws)) (length fs) (written_length ws l ∙ long) $ fjoin ! $
          rewrite ! 0 (λ (r : List (el_x E)). ‵ (Whole.own_at r 0 0)) (sym (overwritten_by xs (run_written xs p n ws) (written_length ws l))) refl $ keep ! (0 ∷ []) $ done !)

      pub lends_run : ent 𝓤 (sep 𝓤 (sem 𝓛 (loan (R E) κ (block_ptr b o) γ xs fs)) (A.lft κ q)) (H.⇛ (mean 𝓛 (some RunLent)))
      lends_run = qed 𝓛 (‵ (loan (R E) κ (block_ptr b o) γ xs fs) ∷ ‵ (flft κ q) ∷ []) ∵ updating ! $ fsplit ! $ open_ref ! tt Whole {x = xs} {b = 0} {o = 0} $ fsplit ! $ feq_l ! (λ long.
          use1 𝓛 (‵ (cells (mem (R E)) run b there) ⊛ ‵ Around) run_out $ split ! $ feq_i ! ℕ (length run) (length run) refl $ fjoin ! $ move ! (2 ∷ 3 ∷ 4 ∷ 0 ∷ 1 ∷ []) $ group ! 5 $
          use1 𝓛 (later (some (λ (δ : GName). ‵ (fobs δ (code_of run)) ⊛ ‵ (fbor κ (Body Some b there δ)) ⊛ ‵ (flft κ q) ⊛ ‵ (follows (Array (R E) 0) (Array (R E) 0) γ δ put))))
          (takes_part 𝓛 Whole Some put κ q 0 0 b there γ (sem 𝓛 Around) (back long) (code_of xs) (code_of xs) run) $ await ! tt $ pick ! (λ δ. split3 ! $
          use2 𝓛 (‵ ((MutSlice ℓ κ (R E)).own_val (record { ref_ptr = (b, there); ghost_name = δ; now = run }) (slice_val (b, there) (length run) ∷ []))) (slice_of 𝓛 (R E) ℓ κ b there δ run rm) $
          move ! (1 ∷ []) $ split ! $ now ! $ show ! (λ (z : GName). mean 𝓛 (RunLent z)) δ $ move ! (2 ∷ 0 ∷ 1 ∷ []) $ done !))

-- Some of a region's places are lent on for its own borrow, which follows them and keeps the others. Assumes `Logic`.
use Rattle.nd_region.proofs.SeparationLogicImports.{◌≡◌, refl, sym, ap, ◌∙◌, Bool, true, false, not, ◌&&◌, ℕ, suc, ◌+◌, List, [], ◌∷◌, length, Ura, full_share, Gv, coded_list, ent, sep, Lft, GName, Share, Fml, ftrue, fsep, flft, fobs, fbor, Logic, sem, Item, ‵, some, later, ◌⊛◌, ◌$◌, ◌∵◌, !, qed, move, keep, use1, use2, split, split3, group, await, updating, show, mean, pick, fsplit, fjoin, feq_l, feq_i, now, done, SemTy, Body, open_ref, takes_part, Array, follows, part_at, block_ptr}
use native.Mathlib.Omega.{arith}
use native.Mathlib.Nat.{not-suc-le-zero}
use Rattle.std.specs.Prelude.{if◌then◌else◌}
use Rattle.std.proofs.mem.Param.{El, R, el_x}
use Rattle.nd_region.specs.RegionMemory.{spot, Spots, loan}
use Rattle.nd_region.specs.RegionPlaces.{kept_where, written_where}
use Rattle.nd_region.proofs.RegionValueAndPlaces.{sz, row_at}
use Rattle.nd_region.proofs.RegionReborrows.{kept_length, rows_cut}

written_long : {X : Type 0} (g : ℕ → Bool) (xs ws : List X) → length (written_where g xs ws) ≡ length xs
written_long g [] ws = refl
written_long g (x ∷ xs) [] = refl
written_long g (x ∷ xs) (w ∷ ws) = ap suc (written_long (λ k. g (suc k)) xs ws)

module _ (E : El) {M : Type 1} {𝓤 : Ura M} (𝓛 : Logic 𝓤) (b : ℕ) where
  open 𝓛 use {H, A}

  abbrev Row : ℕ → List (el_x E) → List Bool → Fml
  Row o xs fs = row_at E b o xs fs

  spot_glue : (f h : Bool) (o : ℕ) (w x : el_x E) → ent 𝓤 (sep 𝓤 (sem 𝓛 (spot (R E) (f && h) (block_ptr b o) w)) (sem 𝓛 (spot (R E) (f && not h) (block_ptr b o) x))) (sem 𝓛 (spot (R E) f (block_ptr b o) (if h then w else x)))
  spot_glue true true o w x = qed 𝓛 (‵ (part_at (R E) full_share w b o) ∷ ‵ ftrue ∷ []) ∵ keep ! (0 ∷ []) $ done !
  spot_glue true false o w x = qed 𝓛 (‵ ftrue ∷ ‵ (part_at (R E) full_share x b o) ∷ []) ∵ keep ! (1 ∷ []) $ done !
  spot_glue false h o w x = qed 𝓛 (‵ ftrue ∷ ‵ ftrue ∷ []) ∵ keep ! (0 ∷ []) $ done !

  -- the places that pass, written, and the others as they were
  row_glue : (g : ℕ → Bool) (xs ws : List (el_x E)) (fs : List Bool) (o : ℕ) → length xs ≡ length fs → length ws ≡ length fs
      → ent 𝓤 (sep 𝓤 (sem 𝓛 (Row o ws (kept_where g fs))) (sem 𝓛 (Row o xs (kept_where (λ k. not (g k)) fs)))) (sem 𝓛 (Row o (written_where g xs ws) fs))
  row_glue g [] ws [] o e e' = qed 𝓛 (‵ (Row o ws []) ∷ ‵ ftrue ∷ []) ∵ keep ! (1 ∷ []) $ done !
  row_glue g (x ∷ xs) ws [] o e e' = let bad : suc (length xs) ≡ 0 = e in absurd (not-suc-le-zero {n = 0} (omega arith))
  row_glue g [] ws (f ∷ fs) o e e' = let bad : 0 ≡ suc (length fs) = e in absurd (not-suc-le-zero {n = 0} (omega arith))
  row_glue g (x ∷ xs) [] (f ∷ fs) o e e' = let bad : 0 ≡ suc (length fs) = e' in absurd (not-suc-le-zero {n = 0} (omega arith))
  row_glue g (x ∷ xs) (w ∷ ws) (f ∷ fs) o e e' = let at : ℕ = o + sz E in let h : ℕ → Bool = λ k. g (suc k) in
      let i : suc (length xs) ≡ suc (length fs) = e in let j : suc (length ws) ≡ suc (length fs) = e' in
      qed 𝓛 (‵ (fsep (spot (R E) (f && g 0) (block_ptr b o) w) (Row at ws (kept_where h fs))) ∷ ‵ (fsep (spot (R E) (f && not (g 0)) (block_ptr b o) x) (Row at xs (kept_where (λ k. not (h k)) fs))) ∷ []) ∵
      fsplit ! $ move ! (2 ∷ []) $ fsplit ! $ move ! (2 ∷ 0 ∷ []) $ use2 𝓛 (‵ (spot (R E) f (block_ptr b o) (if g 0 then w else x))) (spot_glue f (g 0) o w x) $ move ! (2 ∷ 1 ∷ []) $
      use2 𝓛 (‵ (Row at (written_where h xs ws) fs)) (row_glue h xs ws fs at (omega arith) (omega arith)) $ move ! (1 ∷ 0 ∷ []) $ fjoin ! $ done !

  module _ (κ : Lft) (q : Share) (o : ℕ) (γ : GName) (xs : List (el_x E)) (fs : List Bool) (g : ℕ → Bool) where
    abbrev Whole : SemTy
    Whole = Spots (R E) (block_ptr b o) fs

    abbrev Part : SemTy
    Part = Spots (R E) (block_ptr b o) (kept_where g fs)

    abbrev code_of : List (el_x E) → Gv
    code_of = (coded_list (R E).coded).code

    abbrev Others : Fml
    Others = Row o xs (kept_where (λ k. not (g k)) fs)

    abbrev pub PartLent : GName → Item 𝓤
    PartLent δ = ‵ (loan (R E) κ (block_ptr b o) δ xs (kept_where g fs)) ⊛ ‵ (flft κ q) ⊛ ‵ (follows (Array (R E) 0) (Array (R E) 0) γ δ (written_where g xs))

    back : length xs ≡ length fs → (ws : List (el_x E)) → ent 𝓤 (sep 𝓤 (sem 𝓛 (Part.own_at ws 0 0)) (sem 𝓛 Others)) (sem 𝓛 (Whole.own_at (written_where g xs ws) 0 0))
    back long ws = qed 𝓛 (‵ (Part.own_at ws 0 0) ∷ ‵ Others ∷ []) ∵ fsplit ! $ feq_l ! (λ e.
        use2 𝓛 (‵ (Row o (written_where g xs ws) fs)) (row_glue g xs ws fs o long (e ∙ kept_length g fs)) $
        feq_i ! ℕ (length (written_where g xs ws)) (length fs) (written_long g xs ws ∙ long) $ fjoin ! $ done !)

    pub lends_part : ent 𝓤 (sep 𝓤 (sem 𝓛 (loan (R E) κ (block_ptr b o) γ xs fs)) (A.lft κ q)) (H.⇛ (mean 𝓛 (some PartLent)))
    lends_part = qed 𝓛 (‵ (loan (R E) κ (block_ptr b o) γ xs fs) ∷ ‵ (flft κ q) ∷ []) ∵ updating ! $ fsplit ! $ open_ref ! tt Whole {x = xs} {b = 0} {o = 0} $ fsplit ! $ feq_l ! (λ long.
        use1 𝓛 (‵ (Row o xs (kept_where g fs)) ⊛ ‵ Others) (rows_cut E 𝓛 b g xs fs o) $ split ! $
        feq_i ! ℕ (length xs) (length (kept_where g fs)) (long ∙ sym (kept_length g fs)) $ fjoin ! $ move ! (2 ∷ 3 ∷ 4 ∷ 0 ∷ 1 ∷ []) $ group ! 5 $
        use1 𝓛 (later (some (λ (δ : GName). ‵ (fobs δ (code_of xs)) ⊛ ‵ (fbor κ (Body Part 0 0 δ)) ⊛ ‵ (flft κ q) ⊛ ‵ (follows (Array (R E) 0) (Array (R E) 0) γ δ (written_where g xs)))))
        (takes_part 𝓛 Whole Part (written_where g xs) κ q 0 0 0 0 γ (sem 𝓛 Others) (back long) (code_of xs) (code_of xs) xs) $ await ! tt $ pick ! (λ δ. split3 ! $
        fjoin ! $ move ! (1 ∷ []) $ split ! $ now ! $ show ! (λ (z : GName). mean 𝓛 (PartLent z)) δ $ move ! (2 ∷ 0 ∷ 1 ∷ []) $ done !))

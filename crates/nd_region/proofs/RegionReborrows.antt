-- What a region holds is lent on, and what it comes from follows. Assumes `Logic`.
--     hands          after a `&mut` to a region: all its places, for the `&mut`'s lifetime, which the region follows
--     lends_spot     one place leaves as a `&mut`
--     cuts           the places are cut in two by a test
--     lends_local, takes_back, rejoins      places are lent for a lifetime, come back at the last value under their name, and two parts are one again
use Rattle.nd_region.proofs.SeparationLogicImports.{◌≡◌, refl, sym, ap, ◌∙◌, Bool, true, false, not, ◌&&◌, ℕ, suc, ◌+◌, ◌*◌, ◌<◌, ◌^◌, List, [], ◌∷◌, length, set, length-set, Ura, full_share, Gv, coded_list, Lifetime, Val, vptr, ent, sep, emp, id⊢, guard_i, Lft, GName, Share, Fml, Incl, ftrue, fsep, flft, fdead, fobs, fauth, fres, fbor, flent, Logic, sem, nothing, Item, ‵, raw, some, later, ◌⊛◌, ◌$◌, ◌∵◌, !, qed, by, move, drop, keep, use0, use1, use2, split, split3, rewrite, group, await, updating, show, mean, pick, fsplit, fjoin, fjoin3, fpick, fpack, feq_l, feq_i, now, done, SemTy, Body, open_ref, name_new, bor_new, lent_back, res_agree, after₂, takes_part, takes_two, hands_through, Array, follows, part_at, part_of, mem, cell_at, Ptr, block_ptr, MutRef, NamedLft}
use native.Mathlib.Omega.{arith}
use native.Mathlib.Nat.{not-suc-le-zero}
use Rattle.std.specs.Prelude.{Some, if◌then◌else◌}
use Rattle.std.proofs.mem.Param.{El, R, el_x}
use Rattle.nd_region.specs.RegionMemory.{spot, Spots, loan}
use Rattle.nd_region.specs.RegionPlaces.{element_in, merged_rows, kept_where}
use Rattle.nd_region.specs.Region.{with_items}
use Rattle.nd_region.proofs.RegionValueAndPlaces.{Rg, rg_d, rg_val, rg_had, rg_made, sz, row_at, spots_but, spot_out, spot_in}

module _ (a : NamedLft) (E : El) {M : Type 1} {𝓤 : Ura M} (𝓛 : Logic 𝓤) (κ : Lft) (q : Share) (rb ro : ℕ) (γ : GName) (d : rg_d E) (b o : ℕ) where
  open 𝓛 use {H, A}

  abbrev Places : SemTy
  Places = Spots (R E) (block_ptr b o) d.held

  abbrev code_of : List (el_x E) → Gv
  code_of = (coded_list (R E).coded).code

  abbrev pub Handed : GName → Item 𝓤
  Handed δ = ‵ (loan (R E) κ (block_ptr b o) δ d.items d.held) ⊛ ‵ (flft κ q) ⊛ ‵ (follows (Rg a E) (Array (R E) 0) γ δ (with_items d))

  abbrev Cell : Fml
  Cell = cell_at full_share (Rg a E).mir (rg_val (block_ptr b o) d.len ∷ []) rb ro

  module _ (at : d.ptr ≡ block_ptr b o) (fit : d.len * sz E < 2 ^ 63) (long : length d.held ≡ d.len) where
    cut : ent 𝓤 (sem 𝓛 ((mem (Rg a E)).own_at d rb ro)) (sep 𝓤 (A.obs d.name (code_of d.items)) (sep 𝓤 (A.bor a.lft (Body Places 0 0 d.name)) (sem 𝓛 Cell)))
    unfolding part_of
    cut = qed 𝓛 (‵ ((mem (Rg a E)).own_at d rb ro) ∷ []) ∵ fpick ! (λ vs. fsplit ! $ move ! (1 ∷ []) $ rg_had a E ! d vs (λ b' o' at' is fn' fit' long'.
        let same : block_ptr b' o' ≡ block_ptr b o = sym at' ∙ at in
        rewrite ! 1 (λ (ws : List Val). ‵ (cell_at full_share (Rg a E).mir ws rb ro)) (is ∙ ap (λ (p : Ptr). rg_val p d.len ∷ []) same) refl $
        rewrite ! 0 (λ (p : Ptr). ‵ (loan (R E) a.lft p d.name d.items d.held)) same refl $ fsplit ! $ done !))

    back : (w : List (el_x E)) → Unit {0} → ent 𝓤 (sep 𝓤 (A.obs d.name (code_of w)) (sep 𝓤 (A.bor a.lft (Body Places 0 0 d.name)) (sem 𝓛 Cell))) (sem 𝓛 ((mem (Rg a E)).own_at (with_items d w) rb ro))
    unfolding part_of
    back w t = qed 𝓛 (‵ (fobs d.name (code_of w)) ∷ ‵ (fbor a.lft (Body Places 0 0 d.name)) ∷ ‵ Cell ∷ []) ∵ fjoin ! $
        rg_made a E ! (with_items d w) b o at d.small fit long $ move ! (1 ∷ 0 ∷ []) $ fjoin ! $
        fpack ! (List Val) (λ us. fsep (cell_at full_share (Rg a E).mir us rb ro) ((Rg a E).own_val (with_items d w) us)) (rg_val (block_ptr b o) d.len ∷ []) $ done !

    pub hands : Incl κ a.lft → ent 𝓤 (sep 𝓤 (A.obs γ ((Rg a E).coded.code d)) (sep 𝓤 (A.bor κ (Body (mem (Rg a E)) rb ro γ)) (A.lft κ q))) (H.⇛ (mean 𝓛 (some Handed)))
    hands inc = qed 𝓛 (‵ (fobs γ ((Rg a E).coded.code d)) ∷ ‵ (fbor κ (Body (mem (Rg a E)) rb ro γ)) ∷ ‵ (flft κ q) ∷ []) ∵ updating ! $ group ! 3 $
        use1 𝓛 (later (some (λ (δ : GName). ‵ (fobs δ (code_of d.items)) ⊛ ‵ (fbor κ (Body Places 0 0 δ)) ⊛ ‵ (flft κ q) ⊛ ‵ (follows (Rg a E) (Array (R E) 0) γ δ (with_items d)))))
        (hands_through 𝓛 (mem (Rg a E)) Places (with_items d) κ a.lft inc rb ro 0 0 γ d.name (sem 𝓛 Cell) (λ _. Unit {0}) (λ w. guard_i 𝓤 (Unit {0}) (sem 𝓛 (Places.own_at w 0 0)) tt) back q d d.items cut) $
        await ! tt $ pick ! (λ δ. split3 ! $ fjoin ! $ move ! (1 ∷ []) $ split ! $ now ! $ show ! (λ (z : GName). mean 𝓛 (Handed z)) δ $ move ! (2 ∷ 0 ∷ 1 ∷ []) $ done !)

module _ (E : El) {M : Type 1} {𝓤 : Ura M} (𝓛 : Logic 𝓤) (ℓ : Lifetime) (κ : Lft) (q : Share) (b o : ℕ) (γ : GName) (xs : List (el_x E)) (fs : List Bool) where
  open 𝓛 use {H, A}

  abbrev Row : SemTy
  Row = Spots (R E) (block_ptr b o) fs

  abbrev code_row : List (el_x E) → Gv
  code_row = (coded_list (R E).coded).code

  module _ (i : ℕ) (x : el_x E) (e : element_in xs fs i ≡ Some x) where
    abbrev at_i : ℕ
    at_i = i * sz E + o

    abbrev pub SpotLent : GName → Item 𝓤
    SpotLent δ = ‵ ((MutRef ℓ κ (R E)).own_val (record { ref_ptr = (b, at_i); ghost_name = δ; now = x }) (vptr b at_i ∷ [])) ⊛ ‵ (flft κ q) ⊛ ‵ (follows (Array (R E) 0) (R E) γ δ (λ w. set xs i w))

    spot_back : length xs ≡ length fs → (w : el_x E) → ent 𝓤 (sep 𝓤 (sem 𝓛 ((mem (R E)).own_at w b at_i)) (sem 𝓛 (spots_but E 𝓛 b o xs fs i))) (sem 𝓛 (Row.own_at (set xs i w) 0 0))
    spot_back long w = qed 𝓛 (‵ (part_at (R E) full_share w b at_i) ∷ ‵ (spots_but E 𝓛 b o xs fs i) ∷ []) ∵
        use2 𝓛 (‵ (row_at E b o (set xs i w) fs)) (spot_in E 𝓛 b o xs fs i x e w) $ feq_i ! ℕ (length (set xs i w)) (length fs) (length-set xs i w ∙ long) $ fjoin ! $ done !

    pub lends_spot : ent 𝓤 (sep 𝓤 (sem 𝓛 (loan (R E) κ (block_ptr b o) γ xs fs)) (A.lft κ q)) (H.⇛ (mean 𝓛 (some SpotLent)))
    lends_spot = qed 𝓛 (‵ (loan (R E) κ (block_ptr b o) γ xs fs) ∷ ‵ (flft κ q) ∷ []) ∵ updating ! $ fsplit ! $ open_ref ! tt Row {x = xs} {b = 0} {o = 0} $ fsplit ! $ feq_l ! (λ long.
        use1 𝓛 (‵ (part_at (R E) full_share x b at_i) ⊛ ‵ (spots_but E 𝓛 b o xs fs i)) (spot_out E 𝓛 b o xs fs i x e) $ split ! $ move ! (2 ∷ 3 ∷ 4 ∷ 0 ∷ 1 ∷ []) $ group ! 5 $
        use1 𝓛 (later (some (λ (δ : GName). ‵ (fobs δ ((R E).coded.code x)) ⊛ ‵ (fbor κ (Body (mem (R E)) b at_i δ)) ⊛ ‵ (flft κ q) ⊛ ‵ (follows (Array (R E) 0) (R E) γ δ (λ w. set xs i w)))))
        (takes_part 𝓛 Row (mem (R E)) (λ w. set xs i w) κ q 0 0 b at_i γ (sem 𝓛 (spots_but E 𝓛 b o xs fs i)) (spot_back long) (code_row xs) (code_row xs) x) $ await ! tt $ pick ! (λ δ. split3 ! $
        feq_i ! (List Val) (vptr b at_i ∷ []) (vptr b at_i ∷ []) refl $ fjoin3 ! $ move ! (1 ∷ []) $ split ! $ now ! $ show ! (λ (z : GName). mean 𝓛 (SpotLent z)) δ $ move ! (2 ∷ 0 ∷ 1 ∷ []) $ done !))

pub kept_length : (g : ℕ → Bool) (fs : List Bool) → length (kept_where g fs) ≡ length fs
kept_length g [] = refl
kept_length g (f ∷ fs) = ap suc (kept_length (λ k. g (suc k)) fs)

length_merged : {X : Type 0} (ks : List Bool) (ws vs : List X) → length ws ≡ length ks → length vs ≡ length ks → length (merged_rows ks ws vs) ≡ length ks
length_merged [] ws vs e e' = e'
length_merged (k ∷ ks) [] vs e e' = let bad : 0 ≡ suc (length ks) = e in absurd (not-suc-le-zero {n = 0} (omega arith))
length_merged (k ∷ ks) (w ∷ ws) [] e e' = let bad : 0 ≡ suc (length ks) = e' in absurd (not-suc-le-zero {n = 0} (omega arith))
length_merged (k ∷ ks) (w ∷ ws) (v ∷ vs) e e' =
    let i : suc (length ws) ≡ suc (length ks) = e in let j : suc (length vs) ≡ suc (length ks) = e' in ap suc (length_merged ks ws vs (omega arith) (omega arith))

module _ (E : El) {M : Type 1} {𝓤 : Ura M} (𝓛 : Logic 𝓤) (b : ℕ) where
  open 𝓛 use {H, A}

  abbrev Rows : ℕ → List (el_x E) → List Bool → Fml
  Rows o xs fs = row_at E b o xs fs

  spot_cut : (f h : Bool) (o : ℕ) (x : el_x E) → ent 𝓤 (sem 𝓛 (spot (R E) f (block_ptr b o) x)) (sep 𝓤 (sem 𝓛 (spot (R E) (f && h) (block_ptr b o) x)) (sem 𝓛 (spot (R E) (f && not h) (block_ptr b o) x)))
  spot_cut true true o x = qed 𝓛 (‵ (part_at (R E) full_share x b o) ∷ []) ∵ nothing ! $ move ! (1 ∷ 0 ∷ []) $ done !
  spot_cut true false o x = qed 𝓛 (‵ (part_at (R E) full_share x b o) ∷ []) ∵ nothing ! $ done !
  spot_cut false h o x = qed 𝓛 (‵ ftrue ∷ []) ∵ nothing ! $ done !

  spot_glue : (f h : Bool) (o : ℕ) (w v : el_x E) → ent 𝓤 (sep 𝓤 (sem 𝓛 (spot (R E) (f && h) (block_ptr b o) w)) (sem 𝓛 (spot (R E) (f && not h) (block_ptr b o) v))) (sem 𝓛 (spot (R E) f (block_ptr b o) (if f && h then w else v)))
  spot_glue true true o w v = qed 𝓛 (‵ (part_at (R E) full_share w b o) ∷ ‵ ftrue ∷ []) ∵ keep ! (0 ∷ []) $ done !
  spot_glue true false o w v = qed 𝓛 (‵ ftrue ∷ ‵ (part_at (R E) full_share v b o) ∷ []) ∵ keep ! (1 ∷ []) $ done !
  spot_glue false h o w v = qed 𝓛 (‵ ftrue ∷ ‵ ftrue ∷ []) ∵ keep ! (0 ∷ []) $ done !

  pub rows_cut : (g : ℕ → Bool) (xs : List (el_x E)) (fs : List Bool) (o : ℕ) → ent 𝓤 (sem 𝓛 (Rows o xs fs)) (sep 𝓤 (sem 𝓛 (Rows o xs (kept_where g fs))) (sem 𝓛 (Rows o xs (kept_where (λ k. not (g k)) fs))))
  rows_cut g [] fs o = qed 𝓛 (‵ ftrue ∷ []) ∵ nothing ! $ done !
  rows_cut g (x ∷ xs) [] o = qed 𝓛 (‵ ftrue ∷ []) ∵ nothing ! $ done !
  rows_cut g (x ∷ xs) (f ∷ fs) o = let at : ℕ = o + sz E in let h : ℕ → Bool = λ k. g (suc k) in
      qed 𝓛 (‵ (spot (R E) f (block_ptr b o) x) ∷ ‵ (Rows at xs fs) ∷ []) ∵
      use1 𝓛 (‵ (spot (R E) (f && g 0) (block_ptr b o) x) ⊛ ‵ (spot (R E) (f && not (g 0)) (block_ptr b o) x)) (spot_cut f (g 0) o x) $ split ! $ move ! (2 ∷ []) $
      use1 𝓛 (‵ (Rows at xs (kept_where h fs)) ⊛ ‵ (Rows at xs (kept_where (λ k. not (h k)) fs))) (rows_cut h xs fs at) $ split ! $
      move ! (2 ∷ 0 ∷ []) $ fjoin ! $ move ! (2 ∷ 1 ∷ []) $ fjoin ! $ move ! (1 ∷ 0 ∷ []) $ done !

  rows_glue : (g : ℕ → Bool) (ws vs : List (el_x E)) (fs : List Bool) (o : ℕ) → length ws ≡ length fs → length vs ≡ length fs
      → ent 𝓤 (sep 𝓤 (sem 𝓛 (Rows o ws (kept_where g fs))) (sem 𝓛 (Rows o vs (kept_where (λ k. not (g k)) fs)))) (sem 𝓛 (Rows o (merged_rows (kept_where g fs) ws vs) fs))
  rows_glue g ws [] [] o e e' = qed 𝓛 (‵ (Rows o ws []) ∷ ‵ ftrue ∷ []) ∵ keep ! (1 ∷ []) $ done !
  rows_glue g ws (v ∷ vs) [] o e e' = let bad : suc (length vs) ≡ 0 = e' in absurd (not-suc-le-zero {n = 0} (omega arith))
  rows_glue g [] vs (f ∷ fs) o e e' = let bad : 0 ≡ suc (length fs) = e in absurd (not-suc-le-zero {n = 0} (omega arith))
  rows_glue g (w ∷ ws) [] (f ∷ fs) o e e' = let bad : 0 ≡ suc (length fs) = e' in absurd (not-suc-le-zero {n = 0} (omega arith))
  rows_glue g (w ∷ ws) (v ∷ vs) (f ∷ fs) o e e' = let at : ℕ = o + sz E in let h : ℕ → Bool = λ k. g (suc k) in
      let i : suc (length ws) ≡ suc (length fs) = e in let j : suc (length vs) ≡ suc (length fs) = e' in
      qed 𝓛 (‵ (fsep (spot (R E) (f && g 0) (block_ptr b o) w) (Rows at ws (kept_where h fs))) ∷ ‵ (fsep (spot (R E) (f && not (g 0)) (block_ptr b o) v) (Rows at vs (kept_where (λ k. not (h k)) fs))) ∷ []) ∵
      fsplit ! $ move ! (2 ∷ []) $ fsplit ! $ move ! (2 ∷ 0 ∷ []) $ use2 𝓛 (‵ (spot (R E) f (block_ptr b o) (if f && g 0 then w else v))) (spot_glue f (g 0) o w v) $ move ! (2 ∷ 1 ∷ []) $
      use2 𝓛 (‵ (Rows at (merged_rows (kept_where h fs) ws vs) fs)) (rows_glue h ws vs fs at (omega arith) (omega arith)) $ move ! (1 ∷ 0 ∷ []) $ fjoin ! $ done !

  module _ (κ : Lft) (q : Share) (o : ℕ) (γ : GName) (xs : List (el_x E)) (fs : List Bool) (g : ℕ → Bool) where
    abbrev Parted : SemTy
    Parted = Spots (R E) (block_ptr b o) fs

    abbrev One : SemTy
    One = Spots (R E) (block_ptr b o) (kept_where g fs)

    abbrev Two : SemTy
    Two = Spots (R E) (block_ptr b o) (kept_where (λ k. not (g k)) fs)

    abbrev cut_code : Gv
    cut_code = (coded_list (R E).coded).code xs

    abbrev pub Cut : GName × GName → Item 𝓤
    Cut γs = ‵ (loan (R E) κ (block_ptr b o) γs.0 xs (kept_where g fs)) ⊛ ‵ (loan (R E) κ (block_ptr b o) γs.1 xs (kept_where (λ k. not (g k)) fs)) ⊛ ‵ (flft κ q)
        ⊛ ‵ (after₂ Parted One Two γ γs.0 γs.1 (merged_rows (kept_where g fs)))

    mends : (w v : List (el_x E)) → ent 𝓤 (sep 𝓤 (sem 𝓛 (One.own_at w 0 0)) (sep 𝓤 (sem 𝓛 (Two.own_at v 0 0)) (emp 𝓤))) (sem 𝓛 (Parted.own_at (merged_rows (kept_where g fs) w v) 0 0))
    mends w v = qed 𝓛 (‵ (One.own_at w 0 0) ∷ ‵ (Two.own_at v 0 0) ∷ raw (emp 𝓤) ∷ []) ∵ fsplit ! $ feq_l ! (λ e. move ! (1 ∷ []) $ fsplit ! $ feq_l ! (λ e'.
        let i : length w ≡ length fs = e ∙ kept_length g fs in let j : length v ≡ length fs = e' ∙ kept_length (λ k. not (g k)) fs in
        move ! (1 ∷ 0 ∷ []) $ use2 𝓛 (‵ (Rows o (merged_rows (kept_where g fs) w v) fs)) (rows_glue g w v fs o i j) $
        feq_i ! ℕ (length (merged_rows (kept_where g fs) w v)) (length fs) (length_merged (kept_where g fs) w v e (j ∙ sym (kept_length g fs)) ∙ kept_length g fs) $ fjoin ! $ keep ! (0 ∷ []) $ done !))

    pub rejoins : (w v : List (el_x E)) → ent 𝓤 (sep 𝓤 (sem 𝓛 (One.own_at w 0 0)) (sem 𝓛 (Two.own_at v 0 0))) (sem 𝓛 (Parted.own_at (merged_rows (kept_where g fs) w v) 0 0))
    rejoins w v = qed 𝓛 (‵ (One.own_at w 0 0) ∷ ‵ (Two.own_at v 0 0) ∷ []) ∵ use0 𝓛 (raw (emp 𝓤)) (id⊢ 𝓤 (emp 𝓤)) $ move ! (1 ∷ 2 ∷ 0 ∷ []) $ by ! (mends w v)

    pub cuts : ent 𝓤 (sep 𝓤 (sem 𝓛 (loan (R E) κ (block_ptr b o) γ xs fs)) (A.lft κ q)) (H.⇛ (mean 𝓛 (some Cut)))
    cuts = qed 𝓛 (‵ (loan (R E) κ (block_ptr b o) γ xs fs) ∷ ‵ (flft κ q) ∷ []) ∵ updating ! $ fsplit ! $ open_ref ! tt Parted {x = xs} {b = 0} {o = 0} $ fsplit ! $ feq_l ! (λ long.
        use1 𝓛 (‵ (Rows o xs (kept_where g fs)) ⊛ ‵ (Rows o xs (kept_where (λ k. not (g k)) fs))) (rows_cut g xs fs o) $ split ! $
        feq_i ! ℕ (length xs) (length (kept_where g fs)) (long ∙ sym (kept_length g fs)) $ fjoin ! $ move ! (1 ∷ []) $
        feq_i ! ℕ (length xs) (length (kept_where (λ k. not (g k)) fs)) (long ∙ sym (kept_length (λ k. not (g k)) fs)) $ fjoin ! $
        use0 𝓛 (raw (emp 𝓤)) (id⊢ 𝓤 (emp 𝓤)) $ move ! (3 ∷ 4 ∷ 5 ∷ 2 ∷ 1 ∷ 0 ∷ []) $ group ! 6 $
        use1 𝓛 (later (some (λ (γs : GName × GName). (‵ (fobs γs.0 cut_code) ⊛ ‵ (fbor κ (Body One 0 0 γs.0))) ⊛ (‵ (fobs γs.1 cut_code) ⊛ ‵ (fbor κ (Body Two 0 0 γs.1))) ⊛ ‵ (flft κ q) ⊛ ‵ (after₂ Parted One Two γ γs.0 γs.1 (merged_rows (kept_where g fs))))))
        (takes_two 𝓛 Parted One Two (merged_rows (kept_where g fs)) κ q 0 0 0 0 0 0 γ (emp 𝓤) mends cut_code cut_code xs xs) $ await ! tt $ pick ! (λ γs. split3 ! $
        split ! $ fjoin ! $ move ! (1 ∷ []) $ split ! $ fjoin ! $ move ! (2 ∷ []) $ split ! $ now ! $ show ! (λ (z : GName × GName). mean 𝓛 (Cut z)) γs $ move ! (3 ∷ 2 ∷ 0 ∷ 1 ∷ []) $ done !))

  module _ (κ : Lft) (o : ℕ) (xs : List (el_x E)) (ks : List Bool) where
    abbrev Lent : SemTy
    Lent = Spots (R E) (block_ptr b o) ks

    abbrev row_code : List (el_x E) → Gv
    row_code = (coded_list (R E).coded).code

    abbrev pub LentLocal : GName → Item 𝓤
    LentLocal γ = ‵ (loan (R E) κ (block_ptr b o) γ xs ks) ⊛ ‵ (flent κ (Body Lent 0 0 γ))

    pub lends_local : length xs ≡ length ks → ent 𝓤 (sem 𝓛 (Rows o xs ks)) (H.⇛ (mean 𝓛 (some LentLocal)))
    lends_local long = qed 𝓛 (‵ (Rows o xs ks) ∷ []) ∵ updating ! $ name_new ! tt (row_code xs) (λ γ. move ! (2 ∷ []) $
        feq_i ! ℕ (length xs) (length ks) long $ fjoin ! $ move ! (0 ∷ 2 ∷ []) $ fjoin ! $ fpack ! (List (el_x E)) (λ y. fsep (Lent.own_at y 0 0) (fauth γ (row_code y))) xs $
        bor_new ! tt κ $ move ! (2 ∷ 0 ∷ []) $ fjoin ! $ now ! $ show ! (λ (z : GName). mean 𝓛 (LentLocal z)) γ $ done !)

  pub takes_back : (κ : Lft) (o : ℕ) (ks : List Bool) (γ : GName) (ys : List (el_x E))
      → ent 𝓤 (sep 𝓤 (A.dead κ) (sep 𝓤 (A.lent κ (Body (Spots (R E) (block_ptr b o) ks) 0 0 γ)) (A.res γ ((coded_list (R E).coded).code ys)))) (H.⇛ (sem 𝓛 ((Spots (R E) (block_ptr b o) ks).own_at ys 0 0)))
  takes_back κ o ks γ ys = let T : SemTy = Spots (R E) (block_ptr b o) ks in
      qed 𝓛 (‵ (fdead κ) ∷ ‵ (flent κ (Body T 0 0 γ)) ∷ ‵ (fres γ ((coded_list (R E).coded).code ys)) ∷ []) ∵ updating ! $ lent_back ! tt $ fpick ! (λ zs. fsplit ! $ move ! (2 ∷ 1 ∷ []) $
      res_agree ! (coded_list (R E).coded) (λ e. drop ! $ drop ! $ rewrite ! 0 (λ (l : List (el_x E)). ‵ (T.own_at l 0 0)) (sym e) refl $ now ! $ done !))

-- The first rows of a slice or of an array of rows are lent, and it ends with them and with the others as they were. Assumes `Logic`.
use Rattle.nd_region.proofs.SeparationLogicImports.{◌≡◌, refl, sym, ap, ◌∙◌, ℕ, ◌+◌, ◌*◌, List, [], ◌∷◌, ◌++◌, length, length-append, Ura, Lifetime, Val, SProp, ent, sep, ex, emp, guard, guard_i, coded_list, Lft, GName, Share, flft, fobs, fbor, fact_i, fact_use, Logic, sem, Item, ‵, ◌⊛◌, given, later, some, ◌$◌, ◌∵◌, !, qed, by, move, keep, drop, use1, use2, split, split3, fsplit, fsplit3, fjoin, feq_l, feq_i, rewrite, learn, check, group, pick, updating, await, now, show, done, cells, Arr, Body, takes_part, open_ref, Array, Single, follows, heres_id, slice_of, mem, RattleType, MutRef, MutSlice, Room, slice_val}
use borrow.Table.Elements.{at, cut_app, join_app}
use Rattle.std.specs.List.{flat_map}
use Rattle.std.proofs.slice.Relends.{array_in, array_out, runs_out, SliceLent}

-- rows of n elements have n elements each
long_rows : {M : Type 1} {𝓤 : Ura M} (𝓛 : Logic 𝓤) (R : RattleType) (single : Single R.mir) (n b : ℕ) (ys : List (List R.Denot)) (o : ℕ)
    → ent 𝓤 (sem 𝓛 (cells (mem (Array R n)) ys b o)) (guard 𝓤 (length (flat_map (λ x. x) ys) ≡ length ys * n) (sem 𝓛 (cells (mem (Array R n)) ys b o)))
long_rows {𝓤 = 𝓤} 𝓛 R single n b ys o =
    let Long : Type 0 = length (flat_map (λ x. x) ys) ≡ length ys * n in
    fact_use 𝓤 Long
    (qed 𝓛 (‵ (cells (mem (Array R n)) ys b o) ∷ []) ∵ use1 𝓛 (given Long (‵ (cells (mem R) (flat_map (λ x. x) ys) b o))) (runs_out 𝓛 R single n b ys o) $
    learn ! (λ e. keep ! [] $ by ! (fact_i 𝓤 Long (emp 𝓤) e)))
    (λ e. guard_i 𝓤 Long _ e)

module _ {M : Type 1} {𝓤 : Ura M} (𝓛 : Logic 𝓤) (ℓ : Lifetime) (κ : Lft) (q : Share) (b o : ℕ) (γ : GName) (R : RattleType) (single : Single R.mir) (n : ℕ) (front back : List (List R.Denot)) where
  open 𝓛 use {H, A}

  abbrev Row : RattleType
  Row = Array R n

  abbrev whole : List (List R.Denot)
  whole = front ++ back

  abbrev with_back : List (List R.Denot) → List (List R.Denot)
  with_back ws = ws ++ back

  -- the first rows, of n elements each, under a new name, the token, and what the slice ends as
  abbrev pub first_lent : GName → Item 𝓤
  first_lent δ = given (length (flat_map (λ x. x) front) ≡ length front * n)
      (‵ ((MutSlice ℓ κ Row).own_val (record { ref_ptr = (b, o); ghost_name = δ; now = front }) (slice_val (b, o) (length front) ∷ [])) ⊛ ‵ (flft κ q) ⊛ ‵ (follows (Array Row 0) (Array Row 0) γ δ with_back))

  abbrev FirstLent : GName → SProp 𝓤
  FirstLent δ = guard 𝓤 (length (flat_map (λ x. x) front) ≡ length front * n) (SliceLent 𝓛 ℓ κ q b o γ (Array Row 0) Row with_back front δ)

  put : (ws : List (List R.Denot)) → ent 𝓤 (sep 𝓤 (sem 𝓛 ((Arr (mem Row) (length front)).own_at ws b o)) (sem 𝓛 (cells (mem Row) back b (at o (mem Row).size (length front))))) (sem 𝓛 ((Arr (mem Row) (length whole)).own_at (with_back ws) b o))
  put ws =
      qed 𝓛 (‵ ((Arr (mem Row) (length front)).own_at ws b o) ∷ ‵ (cells (mem Row) back b (at o (mem Row).size (length front))) ∷ []) ∵ fsplit ! $ feq_l ! (λ e.
      rewrite ! 1 (λ (j : ℕ). ‵ (cells (mem Row) back b (at o (mem Row).size j))) (sym e) refl $
      use2 𝓛 (‵ (cells (mem Row) (with_back ws) b o)) (join_app 𝓛 (mem Row) ws back b o) $
      feq_i ! ℕ (length (with_back ws)) (length whole) (length-append ws back ∙ ap (λ (j : ℕ). j + length back) e ∙ sym (length-append front back)) $ fjoin ! $ done !)

  pub lends_first : Room Row (length front) → (vs : List Val)
      → ent 𝓤 (sep 𝓤 (sem 𝓛 ((MutSlice ℓ κ Row).own_val (record { ref_ptr = (b, o); ghost_name = γ; now = whole }) vs)) (A.lft κ q)) (H.⇛ (ex 𝓤 FirstLent))
  lends_first rm vs =
      qed 𝓛 (‵ ((MutSlice ℓ κ Row).own_val (record { ref_ptr = (b, o); ghost_name = γ; now = whole }) vs) ∷ ‵ (flft κ q) ∷ []) ∵ updating ! $ fsplit3 ! $ drop ! $
      rewrite ! 0 (λ (l : List Row.Denot). ‵ (fobs γ ((coded_list Row.coded).code l))) (heres_id Row whole) refl $ open_ref ! tt (Arr (mem Row) (length whole)) {b = b} {o = o} $ fsplit ! $ drop ! $
      use1 𝓛 (‵ (cells (mem Row) front b o) ⊛ ‵ (cells (mem Row) back b (at o (mem Row).size (length front)))) (cut_app 𝓛 (mem Row) front back b o) $ split ! $
      use1 𝓛 (given (length (flat_map (λ x. x) front) ≡ length front * n) (‵ (cells (mem Row) front b o))) (long_rows 𝓛 R single n b front o) $ learn ! (λ long.
      feq_i ! ℕ (length front) (length front) refl $ fjoin ! $ move ! (2 ∷ 3 ∷ 4 ∷ 0 ∷ 1 ∷ []) $ group ! 5 $
      use1 𝓛 (later (some (λ (δ : GName). ‵ (fobs δ ((coded_list Row.coded).code front)) ⊛ ‵ (fbor κ (Body (Arr (mem Row) (length front)) b o δ)) ⊛ ‵ (flft κ q) ⊛ ‵ (follows (Array Row 0) (Array Row 0) γ δ with_back))))
      (takes_part 𝓛 (Arr (mem Row) (length whole)) (Arr (mem Row) (length front)) with_back κ q b o b o γ (sem 𝓛 (cells (mem Row) back b (at o (mem Row).size (length front)))) put ((coded_list Row.coded).code whole) ((coded_list Row.coded).code whole) front) $ await ! tt $ pick ! (λ δ. split3 ! $
      use2 𝓛 (‵ ((MutSlice ℓ κ Row).own_val (record { ref_ptr = (b, o); ghost_name = δ; now = front }) (slice_val (b, o) (length front) ∷ []))) (slice_of 𝓛 Row ℓ κ b o δ front rm) $ now ! $ show ! FirstLent δ $ check ! long $ done !))

  module _ (m : ℕ) where
    abbrev Rows : RattleType
    Rows = Array Row m

    -- the same of an array, which has as many
    abbrev pub of_array : GName → Item 𝓤
    of_array δ = given (length whole ≡ m) (given (length (flat_map (λ x. x) front) ≡ length front * n)
        (‵ ((MutSlice ℓ κ Row).own_val (record { ref_ptr = (b, o); ghost_name = δ; now = front }) (slice_val (b, o) (length front) ∷ [])) ⊛ ‵ (flft κ q) ⊛ ‵ (follows Rows (Array Row 0) γ δ with_back)))

    abbrev OfArray : GName → SProp 𝓤
    OfArray δ = guard 𝓤 (length whole ≡ m) (guard 𝓤 (length (flat_map (λ x. x) front) ≡ length front * n) (SliceLent 𝓛 ℓ κ q b o γ Rows Row with_back front δ))

    put_back : length whole ≡ m → (ws : List (List R.Denot)) → ent 𝓤 (sep 𝓤 (sem 𝓛 ((Arr (mem Row) (length front)).own_at ws b o)) (sem 𝓛 (cells (mem Row) back b (at o (mem Row).size (length front))))) (sem 𝓛 ((mem Rows).own_at (with_back ws) b o))
    put_back all ws =
        qed 𝓛 (‵ ((Arr (mem Row) (length front)).own_at ws b o) ∷ ‵ (cells (mem Row) back b (at o (mem Row).size (length front))) ∷ []) ∵ fsplit ! $ feq_l ! (λ e.
        rewrite ! 1 (λ (j : ℕ). ‵ (cells (mem Row) back b (at o (mem Row).size j))) (sym e) refl $
        use2 𝓛 (‵ (cells (mem Row) (with_back ws) b o)) (join_app 𝓛 (mem Row) ws back b o) $
        by ! (array_in 𝓛 Row tt m b (with_back ws) o (length-append ws back ∙ ap (λ (j : ℕ). j + length back) e ∙ sym (length-append front back) ∙ all)))

    pub lends_of_array : (length whole ≡ m → Room Row (length front)) → (vs : List Val)
        → ent 𝓤 (sep 𝓤 (sem 𝓛 ((MutRef ℓ κ Rows).own_val (record { ref_ptr = (b, o); ghost_name = γ; now = whole }) vs)) (A.lft κ q)) (H.⇛ (ex 𝓤 OfArray))
    lends_of_array rm vs =
        qed 𝓛 (‵ ((MutRef ℓ κ Rows).own_val (record { ref_ptr = (b, o); ghost_name = γ; now = whole }) vs) ∷ ‵ (flft κ q) ∷ []) ∵ updating ! $ fsplit3 ! $ drop ! $
        open_ref ! tt (mem Rows) {b = b} {o = o} $ use1 𝓛 (given (length whole ≡ m) (‵ (cells (mem Row) whole b o))) (array_out 𝓛 Row tt m b whole o) $ learn ! (λ all.
        use1 𝓛 (‵ (cells (mem Row) front b o) ⊛ ‵ (cells (mem Row) back b (at o (mem Row).size (length front)))) (cut_app 𝓛 (mem Row) front back b o) $ split ! $
        use1 𝓛 (given (length (flat_map (λ x. x) front) ≡ length front * n) (‵ (cells (mem Row) front b o))) (long_rows 𝓛 R single n b front o) $ learn ! (λ long.
        feq_i ! ℕ (length front) (length front) refl $ fjoin ! $ move ! (2 ∷ 3 ∷ 4 ∷ 0 ∷ 1 ∷ []) $ group ! 5 $
        use1 𝓛 (later (some (λ (δ : GName). ‵ (fobs δ ((coded_list Row.coded).code front)) ⊛ ‵ (fbor κ (Body (Arr (mem Row) (length front)) b o δ)) ⊛ ‵ (flft κ q) ⊛ ‵ (follows Rows (Array Row 0) γ δ with_back))))
        (takes_part 𝓛 (mem Rows) (Arr (mem Row) (length front)) with_back κ q b o b o γ (sem 𝓛 (cells (mem Row) back b (at o (mem Row).size (length front)))) (put_back all) (Rows.coded.code whole) (Rows.coded.code whole) front) $ await ! tt $ pick ! (λ δ. split3 ! $
        use2 𝓛 (‵ ((MutSlice ℓ κ Row).own_val (record { ref_ptr = (b, o); ghost_name = δ; now = front }) (slice_val (b, o) (length front) ∷ []))) (slice_of 𝓛 Row ℓ κ b o δ front (rm all)) $ now ! $ show ! OfArray δ $ check ! all $ check ! long $ done !)))

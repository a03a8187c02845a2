-- What a `&` to a region shows: its pointer, and a `&` to each element that it holds. Assumes `Logic`.
use Rattle.nd_region.proofs.SeparationLogicImports.{◌≡◌, refl, sym, ap, subst, ◌∙◌, Bool, true, false, ℕ, zero, suc, ◌+◌, ◌*◌, ◌≤◌, ◌^◌, List, [], ◌∷◌, ◌++◌, length, take, replicate, length-drop, Ura, ty_ptr, Val, vptr, ent, sep, id⊢, Lft, Share, Incl, ftrue, fat, feq, flt, flft, fhide, Logic, sem, Goal, Soaks, Step, step, Seq, Item, ‵, ◌⊛◌, ◌$◌, ◌∵◌, !, qed, by, move, keep, drop, use1, split, rewrite, fsplit, fjoin, feq_l, feq_i, done, plain_Copied, place, place_is, cell_at, part_at, hidden_shr, shared_of, Shut, hide, unhide, Ptr, RawPtr, block_ptr, in_block, coded_ptr, ptr_own, rawptr_pure, ptr_val, NamedLft, MutRef, shortens, elements_shared, elements_shr_laws, looks, shuts, RawPtr-laws, lent_out}
use lib.ListN.{drop as drop_l}
use native.Mathlib.Omega.{arith}
use native.Mathlib.Nat.{zero-mul, suc-mul, not-suc-le-zero}
use Rattle.std.specs.Prelude.{Some}
use Rattle.std.specs.contracts.marker.PhantomData as marker
use Rattle.std.proofs.mem.Param.{El, R, el_x}
use Rattle.nd_region.specs.contracts.divided_mutable_borrow.Region as C
use Rattle.nd_region.specs.RegionMemory.{spot_lent, spots_lent}
use Rattle.nd_region.specs.RegionPlaces.{element_in}
use Rattle.nd_region.proofs.RunsOfPlaces.{IsAt}
use Rattle.nd_region.proofs.RegionValueAndPlaces.{Rg, rg_d, Words, sz, no_some, some_is, stored_suc}

mask_short : (n : ℕ) → [] ≡ true ∷ replicate n true → ⊥
mask_short n e = cc

mask_head : (n : ℕ) (f : Bool) (fs : List Bool) → f ∷ take n fs ≡ true ∷ replicate n true → (f ≡ true) × (take n fs ≡ replicate n true)
mask_head n f fs e = (cc, cc)

module _ (E : El) {M : Type 1} {𝓤 : Ura M} (𝓛 : Logic 𝓤) (κ : Lft) where
  pub shown : (a : NamedLft) (d : rg_d E) (b o : ℕ) → ent 𝓤 (sem 𝓛 (hidden_shr (Rg a E) κ d b o)) (sep 𝓤 (sem 𝓛 (hidden_shr RawPtr κ d.ptr b (o + 0)))
      (sep 𝓤 (sem 𝓛 (flt (d.len * sz E) (2 ^ 63))) (sep 𝓤 (sem 𝓛 (feq ℕ (length d.held) d.len)) (sep 𝓤 (sem 𝓛 (in_block d.ptr ftrue)) (sem 𝓛 (spots_lent (R E) d.ptr d.items d.held (κ ++ a.lft)))))))
  shown a d b o = qed 𝓛 (‵ (hidden_shr (Rg a E) κ d b o) ∷ []) ∵
      use1 𝓛 (‵ (hidden_shr (Words a E) κ (d.ptr, (d.len, (tt, tt))) b o) ⊛ ‵ (fhide (C.the_lent a.lft (R E) d d.ptr κ)))
      (lent_out 𝓛 (C.struct a (R E)) (C.the_codes (el_x E) (R E).coded (marker.the_row (MutRef a.mir a.lft (R E))).coded) (C.the_heap a.lft (R E)) (C.the_lent a.lft (R E)) κ d b o) $ split ! $
      unhide ! $ fsplit ! $ fsplit ! $ move ! (3 ∷ []) $ unhide ! $ fsplit ! $ move ! (1 ∷ []) $ fsplit ! $ move ! (1 ∷ []) $ fsplit ! $ keep ! (4 ∷ 3 ∷ 2 ∷ 0 ∷ 1 ∷ []) $ done !

  one_lent : (b o : ℕ) (xs : List (el_x E)) (fs : List Bool) (i : ℕ) (x : el_x E) → element_in xs fs i ≡ Some x
      → ent 𝓤 (sem 𝓛 (spots_lent (R E) (block_ptr b o) xs fs κ)) (sem 𝓛 (shared_of (R E) x b (place (sz E) o i) κ))
  one_lent b o [] fs i x e = absurd (no_some e)
  one_lent b o (y ∷ xs) [] i x e = absurd (no_some e)
  one_lent b o (y ∷ xs) (true ∷ fs) zero x e = qed 𝓛 (‵ (spot_lent (R E) true (block_ptr b o) y κ) ∷ ‵ (spots_lent (R E) (block_ptr b (o + sz E)) xs fs κ) ∷ []) ∵
      rewrite ! 0 (λ (z : el_x E). ‵ (spot_lent (R E) true (block_ptr b o) z κ)) (some_is e) refl $ fsplit ! $ keep ! (1 ∷ []) $ done !
  one_lent b o (y ∷ xs) (false ∷ fs) zero x e = absurd (no_some e)
  one_lent b o (y ∷ xs) (f ∷ fs) (suc i) x e = qed 𝓛 (‵ (spot_lent (R E) f (block_ptr b o) y κ) ∷ ‵ (spots_lent (R E) (block_ptr b (o + sz E)) xs fs κ) ∷ []) ∵
      drop ! $ by ! (one_lent b (o + sz E) xs fs i x (stored_suc f y xs fs i e))

  -- one element, for a lifetime within that of the row's `&`
  pub spot_seen : (κ' : Lft) → Incl κ' κ → (b o : ℕ) (xs : List (el_x E)) (fs : List Bool) (i : ℕ) (x : el_x E) → element_in xs fs i ≡ Some x
      → ent 𝓤 (sem 𝓛 (spots_lent (R E) (block_ptr b o) xs fs κ)) (sem 𝓛 (hidden_shr (R E) κ' x b (i * sz E + o)))
  spot_seen κ' inc b o xs fs i x e = qed 𝓛 (‵ (spots_lent (R E) (block_ptr b o) xs fs κ) ∷ []) ∵
      use1 𝓛 (‵ (shared_of (R E) x b (place (sz E) o i) κ)) (one_lent b o xs fs i x e) $ rewrite ! 0 (λ (k : ℕ). ‵ (shared_of (R E) x b k κ)) (place_is (sz E) o i) refl $
      use1 𝓛 (‵ (shared_of (R E) x b (i * sz E + o) κ')) (shortens 𝓛 (shared_of (R E) x b (i * sz E + o)) (E.laws.shr_laws x b (i * sz E + o)) κ κ' inc) $ hide ! $ done !

  lent_from : (b : ℕ) (xs : List (el_x E)) (fs : List Bool) (st o at : ℕ) → st ≤ length xs → st ≤ length fs → at ≡ st * sz E + o
      → ent 𝓤 (sem 𝓛 (spots_lent (R E) (block_ptr b o) xs fs κ)) (sem 𝓛 (spots_lent (R E) (block_ptr b at) (drop_l st xs) (drop_l st fs) κ))
  lent_from b xs fs zero o at l l' e = let same : o ≡ at = omega (arith, zero-mul (sz E), e) in subst (λ k. ent 𝓤 (sem 𝓛 (spots_lent (R E) (block_ptr b o) xs fs κ)) (sem 𝓛 (spots_lent (R E) (block_ptr b k) xs fs κ))) same (id⊢ 𝓤 _)
  lent_from b [] fs (suc st) o at l l' e = absurd (not-suc-le-zero l)
  lent_from b (x ∷ xs) [] (suc st) o at l l' e = absurd (not-suc-le-zero l')
  lent_from b (x ∷ xs) (f ∷ fs) (suc st) o at l l' e =
      let i : suc st ≤ suc (length xs) = l in let j : suc st ≤ suc (length fs) = l' in
      qed 𝓛 (‵ (spot_lent (R E) f (block_ptr b o) x κ) ∷ ‵ (spots_lent (R E) (block_ptr b (o + sz E)) xs fs κ) ∷ []) ∵ drop ! $
      by ! (lent_from b xs fs st (o + sz E) at (omega arith) (omega arith) (e ∙ omega (arith, suc-mul st (sz E))))

  lent_offset : (b : ℕ) (n : ℕ) (xs : List (el_x E)) (fs : List Bool) (o : ℕ) → n ≤ length xs → take n fs ≡ replicate n true
      → ent 𝓤 (sem 𝓛 (spots_lent (R E) (block_ptr b o) xs fs κ)) (sem 𝓛 (elements_shared (R E) (take n xs) b o κ))
  lent_offset b zero xs fs o l e = qed 𝓛 (‵ (spots_lent (R E) (block_ptr b o) xs fs κ) ∷ []) ∵ keep ! [] $ done !
  lent_offset b (suc n) [] fs o l e = absurd (not-suc-le-zero l)
  lent_offset b (suc n) (x ∷ xs) [] o l e = absurd (mask_short n e)
  lent_offset b (suc n) (x ∷ xs) (f ∷ fs) o l e =
      let i : suc n ≤ suc (length xs) = l in let h = mask_head n f fs e in
      qed 𝓛 (‵ (spot_lent (R E) f (block_ptr b o) x κ) ∷ ‵ (spots_lent (R E) (block_ptr b (o + sz E)) xs fs κ) ∷ []) ∵
      rewrite ! 0 (λ (g : Bool). ‵ (spot_lent (R E) g (block_ptr b o) x κ)) h.0 refl $ fsplit ! $ drop ! $ move ! (1 ∷ []) $
      use1 𝓛 (‵ (elements_shared (R E) (take n xs) b (o + sz E) κ)) (lent_offset b n xs fs (o + sz E) (omega arith) h.1) $ move ! (1 ∷ 0 ∷ []) $ fjoin ! $ done !

  -- a run of elements, for a lifetime within that of the row's `&`
  pub run_seen : (κ' : Lft) → Incl κ' κ → (b o : ℕ) (xs : List (el_x E)) (fs : List Bool) (p n st : ℕ) → IsAt xs fs p n st
      → ent 𝓤 (sem 𝓛 (spots_lent (R E) (block_ptr b o) xs fs κ)) (sem 𝓛 (fhide (elements_shared (R E) (take n (drop_l st xs)) b (st * sz E + o) κ')))
  run_seen κ' inc b o xs fs p n st at = let ys : List (el_x E) = take n (drop_l st xs) in let here : ℕ = st * sz E + o in
      qed 𝓛 (‵ (spots_lent (R E) (block_ptr b o) xs fs κ) ∷ []) ∵
      use1 𝓛 (‵ (spots_lent (R E) (block_ptr b here) (drop_l st xs) (drop_l st fs) κ)) (lent_from b xs fs st o here (omega (arith, at.in_row)) (omega (arith, at.in_mask)) refl) $
      use1 𝓛 (‵ (elements_shared (R E) ys b here κ)) (lent_offset b n (drop_l st xs) (drop_l st fs) here (omega (arith, length-drop st xs, at.in_row)) at.full) $
      use1 𝓛 (‵ (elements_shared (R E) ys b here κ')) (shortens 𝓛 (elements_shared (R E) ys b here) (elements_shr_laws (R E) E.laws.shr_laws ys b here) κ κ' inc) $ hide ! $ done !

module _ {M : Type 1} {𝓤 : Ura M} {𝓛 : Logic 𝓤} {K : Type 0} {Γ : List (Item 𝓤)} {G : Goal 𝓤 𝓛.H} where
  -- a pointer into a block, after a `&`, is looked at: [the word; the way back]
  pub pointer_in : K → Soaks G → {κ : Lft} {q : Share} (p : Ptr) (pb po : ℕ) → p ≡ block_ptr pb po → (b at : ℕ)
      → ((q' : Share) → Seq K 𝓛 (‵ (fat q' ty_ptr b at (vptr pb po)) ∷ Shut 𝓛 κ q (part_at RawPtr q' p b at) ∷ Γ) G) → Seq K 𝓛 (‵ (hidden_shr RawPtr κ p b at) ∷ ‵ (flft κ q) ∷ Γ) G
  pointer_in t z p pb po is b at k =
      looks t z RawPtr (plain_Copied 𝓛 Ptr coded_ptr (ty_ptr ∷ []) ptr_own rawptr_pure ptr_val RawPtr-laws.tells).opens p b at (λ q' vs. move t (1 ∷ []) $ feq_l t (λ e.
      rewrite t 0 (λ (us : List Val). ‵ (cell_at q' RawPtr.mir us b at)) (e ∙ ap (λ (r : Ptr). ptr_val r ∷ []) is) refl $ move t (2 ∷ []) $ drop t $ k q'))

  pub pointer_out : K → Soaks G → {κ : Lft} {q q' : Share} (p : Ptr) (pb po : ℕ) → p ≡ block_ptr pb po → (b at : ℕ)
      → Step K 𝓛 (‵ (flft κ q) ∷ Γ) G (‵ (fat q' ty_ptr b at (vptr pb po)) ∷ Shut 𝓛 κ q (part_at RawPtr q' p b at) ∷ Γ) G
  pointer_out t z {q' = q'} p pb po is b at = step (λ s.
      feq_i t (List Val) (vptr pb po ∷ []) (ptr_val p ∷ []) (ap (λ (r : Ptr). ptr_val r ∷ []) (sym is)) $ move t (1 ∷ 0 ∷ []) $ shuts t z RawPtr q' p (vptr pb po ∷ []) b at $ s)

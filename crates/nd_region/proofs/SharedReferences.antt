-- A `&` to a region is made where one to an element is. Assumes `Logic`.
use Rattle.nd_region.proofs.SeparationLogicImports.{List, [], ◌∷◌, ◌++◌, Bool, true, false, length, ℕ, ◌*◌, ◌^◌, Ura, sep, emp, id⊢, Lft, GName, Fml, Incl, Incl-trans, ftrue, fsep, feq, flt, fbor, meet_⊑_left, meet_⊑_right, ⊑_meet, Logic, sem, lfts, ‵, ◌⊛◌, raw, later, await, ◌$◌, !, qed, drop, use0, use1, use2, split, fsplit, fjoin, updating, now, done, RattleType, RowLaws, Laws, Ptr, block_ptr, null_ptr, in_block, ◌+ₚ◌, ShrLaws, said, beside, within, beside_shr_laws, nothing_shr_laws, said_shr_laws, within_shr_laws, Shares-less, peels, Lends, Lends-both, Lends-nothing, Lends-said, Lends-false, Lends-lies, lent_at_shr_laws, in_block_pure}
use ghost.Rules.{span}
use denote.Sharing.{nothing}
use Rattle.nd_region.specs.RegionMemory.{bytes_of, spot, spots, Spots, loan, region, spot_lent, spots_lent, region_lent}

module _ (R : RattleType) (L : RowLaws R) where
  spot_lent_laws : (f : Bool) (p : Ptr) (x : R.Denot) → ShrLaws (spot_lent R f p x)
  spot_lent_laws true p x = lent_at_shr_laws R L p x
  spot_lent_laws false p x = nothing_shr_laws

  pub spots_lent_laws : (p : Ptr) (xs : List R.Denot) (fs : List Bool) → ShrLaws (spots_lent R p xs fs)
  spots_lent_laws p [] fs = nothing_shr_laws
  spots_lent_laws p (x ∷ xs) [] = nothing_shr_laws
  spots_lent_laws p (x ∷ xs) (f ∷ fs) = beside_shr_laws _ _ (spot_lent_laws f p x) (spots_lent_laws (p +ₚ bytes_of R) xs fs)

  pub region_lent_laws : (a : Lft) (p : Ptr) (n : ℕ) (xs : List R.Denot) (fs : List Bool) → ShrLaws (region_lent R a p n xs fs)
  region_lent_laws a p n xs fs = beside_shr_laws _ _ (said_shr_laws (flt (n * bytes_of R) (2 ^ 63)) tt)
      (beside_shr_laws _ _ (said_shr_laws (feq ℕ (length fs) n) tt) (beside_shr_laws _ _ (said_shr_laws (in_block p ftrue) (in_block_pure p)) (within_shr_laws a (spots_lent R p xs fs) (spots_lent_laws p xs fs))))

module _ {M : Type 1} {𝓤 : Ura M} (𝓛 : Logic 𝓤) (l : Lft) (R : RattleType) (L : Laws R) (inc : Incl l R.lives) where
  open 𝓛 use {H, A}

  Lends-spot : (f : Bool) (p : Ptr) (x : R.Denot) → Lends 𝓛 (spot R f p x) (spot_lent R f p x) l
  Lends-spot true p x = Lends-lies 𝓛 R l p x (Shares-less 𝓛 R R.lives l inc (L.shares 𝓛) x)
  Lends-spot false p x = Lends-nothing 𝓛 ftrue l

  Lends-spots : (p : Ptr) (xs : List R.Denot) (fs : List Bool) → Lends 𝓛 (spots R p xs fs) (spots_lent R p xs fs) l
  Lends-spots p [] fs = Lends-nothing 𝓛 ftrue l
  Lends-spots p (x ∷ xs) [] = Lends-nothing 𝓛 ftrue l
  Lends-spots p (x ∷ xs) (f ∷ fs) = Lends-both 𝓛 (spot R f p x) (spots R (p +ₚ bytes_of R) xs fs) (spot_lent R f p x) (spots_lent R (p +ₚ bytes_of R) xs fs) l (Lends-spot f p x) (Lends-spots (p +ₚ bytes_of R) xs fs)

  module _ (a : Lft) (il : Incl l a) (γ : GName) (xs : List R.Denot) (fs : List Bool) where
    Lends-loan : (p : Ptr) → Lends 𝓛 (loan R a p γ xs fs) (within a (spots_lent R p xs fs)) l
    Lends-loan p κ ts inc' sp =
        let sm : Incl (span ts) (κ ++ a) = ⊑_meet (span ts) κ a sp (Incl-trans inc' il) in
        let All : Fml = (Spots R p fs).own_at xs 0 0 in
        qed 𝓛 (‵ (fbor κ (loan R a p γ xs fs)) ∷ raw (lfts 𝓛 ts) ∷ []) {P = H.⇛ (sep 𝓤 (sem 𝓛 (spots_lent R p xs fs (κ ++ a))) (lfts 𝓛 ts))} (
        updating ! $ use1 𝓛 (‵ (fbor (κ ++ a) (loan R a p γ xs fs))) (𝓛.bors.bor_shorten κ (κ ++ a) (loan R a p γ xs fs) (meet_⊑_left κ a)) $
        use2 𝓛 (later (‵ (fbor (κ ++ a) All) ⊛ raw (lfts 𝓛 ts))) (peels 𝓛 (Spots R p fs) (κ ++ a) a ts sm γ xs 0 0 (meet_⊑_right κ a)) $ await ! tt $ split ! $
        use2 𝓛 (later (‵ (beside nothing (spots_lent R p xs fs) (κ ++ a)) ⊛ raw (lfts 𝓛 ts)))
        (Lends-both 𝓛 (feq ℕ (length xs) (length fs)) (spots R p xs fs) nothing (spots_lent R p xs fs) l (Lends-nothing 𝓛 (feq ℕ (length xs) (length fs)) l) (Lends-spots p xs fs) (κ ++ a) ts inc' sm) $
        await ! tt $ split ! $ fsplit ! $ drop ! $ now ! $ done !)

    abbrev Inside : Ptr → Lft → Fml
    Inside p = beside (said (in_block p ftrue)) (within a (spots_lent R p xs fs))

    Lends-in_block : (p : Ptr) → Lends 𝓛 (in_block p (loan R a p γ xs fs)) (Inside p) l
    Lends-in_block (block_ptr b o) κ ts inc' sp = qed 𝓛 (‵ (fbor κ (loan R a (block_ptr b o) γ xs fs)) ∷ raw (lfts 𝓛 ts) ∷ []) {P = H.⇛ (sep 𝓤 (sem 𝓛 (Inside (block_ptr b o) κ)) (lfts 𝓛 ts))} (
        updating ! $ use2 𝓛 (later (‵ (within a (spots_lent R (block_ptr b o) xs fs) κ) ⊛ raw (lfts 𝓛 ts))) (Lends-loan (block_ptr b o) κ ts inc' sp) $ await ! tt $ split ! $ use0 𝓛 (‵ ftrue) (id⊢ 𝓤 (emp 𝓤)) $ fjoin ! $ now ! $ done !)
    Lends-in_block null_ptr κ ts inc' sp = Lends-false 𝓛 (Inside null_ptr) l κ ts inc' sp

    pub Lends-region : (p : Ptr) (n : ℕ) → Lends 𝓛 (region R a p n γ xs fs) (region_lent R a p n xs fs) l
    Lends-region p n =
        let small : Fml = flt (n * bytes_of R) (2 ^ 63) in let long : Fml = feq ℕ (length fs) n in
        Lends-both 𝓛 small (fsep long (in_block p (loan R a p γ xs fs))) (said small) (beside (said long) (Inside p)) l (Lends-said 𝓛 small tt l)
        (Lends-both 𝓛 long (in_block p (loan R a p γ xs fs)) (said long) (Inside p) l (Lends-said 𝓛 long tt l) (Lends-in_block p))

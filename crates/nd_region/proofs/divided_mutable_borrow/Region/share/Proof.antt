-- `share` keeps the `&` to the region, for the `&`'s own lifetime alone. Assumes `Logic`.
use Rattle.nd_region.proofs.SeparationLogicImports.{refl, ℕ, List, [], ◌∷◌, ◌++◌, lit<, Ura, Fn, named, inst_fn, Val, vptr, vcons, vnil, ent, Lft, Incl, Incl-trans, ftrue, flft, ◌⊑◌, ⊑_meet, meet_⊑_left, fact, tables, Memory, Logic, sem, ‵, raw, ◌⊛◌, ◌$◌, ◌∵◌, !, qed, move, keep, drop, use1, split, split3, join, fsplit, fjoin, fpack, feq_i, suffices, done, live, agg, lit, no_more, and_then, returns, enter, alloc_all, pass_all, free_all, look_at, get, sets, RefOf, in_a_row, form_of, tagged_with, shape as enum_shape, yes, hidden_shr, hide, unhide, RattleType, owns, Valss, NamedLft, ShrRef, shr_vals, shr_Tells, shortens, plain, named_lft, types_at, nothing, Ended, says, Stays, stay_dropped, walk_of, ends_at, Goes-dropped}
use Rattle.std.proofs.raw_atomic.Walks.{proved}
use Rattle.std.proofs.mem.Param.{El, R, args}
use Rattle.nd_region.specs.RegionMemory.{spots_lent}
use Rattle.nd_region.specs.declared.shared_borrow.SharedRegion.TheVariants.{Part}
use Rattle.nd_region.specs.contracts.shared_borrow.SharedRegion as S-type
use Rattle.nd_region.proofs.RegionValueAndPlaces.{Rg, rg_d}
use Rattle.nd_region.proofs.SharedReferences.{spots_lent_laws}
use Rattle.nd_region.specs.contracts.divided_mutable_borrow.Region.share as F
use Rattle.nd_region.specs.contracts.divided_mutable_borrow.Region.share.Key.{name as #self}
use Rattle.nd_region.proofs.divided_mutable_borrow.Region.share.Statement as stated
use Rattle.nd_region.proofs.divided_mutable_borrow.Region.share.Code as code

module _ (E : El) (a c : NamedLft) {M : Type 1} {𝓤 : Ura M} (𝓛 : Logic 𝓤) where
  -- a `&` to a region of a longer borrow is one to a region of the `&`'s own lifetime
  narrows : Incl a.lft c.lft → (d : rg_d E) (b o : ℕ) → ent 𝓤 (sem 𝓛 (hidden_shr (Rg c E) a.lft d b o)) (sem 𝓛 (hidden_shr (Rg a E) a.lft d b o))
  narrows inc d b o = let κ : Lft = a.lft in
      qed 𝓛 (‵ (hidden_shr (Rg c E) κ d b o) ∷ []) ∵ unhide ! $ fsplit ! $ move ! (1 ∷ []) $ fsplit ! $ move ! (1 ∷ []) $ fsplit ! $ move ! (1 ∷ []) $ fsplit ! $ move ! (1 ∷ []) $
      use1 𝓛 (‵ (spots_lent (R E) d.ptr d.items d.held (κ ++ κ))) (shortens 𝓛 (spots_lent (R E) d.ptr d.items d.held) (spots_lent_laws (R E) E.laws.shr_laws d.ptr d.items d.held) (κ ++ c.lft) (κ ++ κ)
      (⊑_meet (κ ++ κ) κ c.lft (meet_⊑_left κ κ) (Incl-trans (meet_⊑_left κ κ) inc))) $
      move ! (1 ∷ 0 ∷ []) $ fjoin ! $ move ! (1 ∷ 0 ∷ []) $ fjoin ! $ move ! (1 ∷ 0 ∷ []) $ fjoin ! $ move ! (1 ∷ 0 ∷ []) $ fjoin ! $ hide ! $ done !

  pub Part-of : (x : (ShrRef a.mir a.lft (Rg a E)).Denot) (v : Val) → ent 𝓤 (sem 𝓛 ((ShrRef a.mir a.lft (Rg a E)).own_val x (v ∷ []))) (sem 𝓛 ((S-type.the_row a (R E)).own_val (Part x) (live 0 (vcons v vnil) ∷ [])))
  Part-of x v =
      let G : RattleType = ShrRef a.mir a.lft (Rg a E) in
      qed 𝓛 (‵ (G.own_val x (v ∷ [])) ∷ []) ∵ nothing ! $ move ! (1 ∷ 0 ∷ []) $ fjoin ! $ feq_i ! (List Val) (v ∷ []) (v ∷ []) refl $ fjoin ! $
      fpack ! (Valss (G ∷ [])) (in_a_row (G ∷ []) (owns (G ∷ []) (x, tt)) (v ∷ [])) (v ∷ [], tt) $
      feq_i ! (List Val) (live 0 (vcons v vnil) ∷ []) (live 0 (vcons v vnil) ∷ []) refl $ fjoin ! $
      fpack ! (List Val) (tagged_with (form_of (enum_shape (S-type.the_type a (R E)))) (form_of (enum_shape (S-type.the_type a (R E)))).payload ((S-type.the_type a (R E)).to (Part x)) (live 0 (vcons v vnil) ∷ [])) (v ∷ []) $ done !

pub share_spec : {M : Type 1} → stated.statement M
share_spec 𝓤 𝓛 𝓜 𝓡 wired X L =
    let H = 𝓛.H in let 𝓣 = tables 𝓤 H 𝓜 𝓡 𝓡.env in let E : El = record { row = X; laws = L } in
    let here : Fn = inst_fn (args E) code.function in let ended : Ended = F.ended X in let held = F.clauses X 𝓛 𝓜.mem 𝓡.returns in
    let stayed : Stays ended.signature.params ended.kept = (stay_dropped (RefOf (0 ∷ []) tt (plain (λ κs. Rg (named_lft 3 1 tt κs) E)) (λ _. tt)) yes, tt) in
    proved 𝓛 ended stayed held 𝓜 𝓡 (Goes-dropped 𝓛 3 (RefOf (0 ∷ []) tt (plain (λ κs. Rg (named_lft 3 1 tt κs) E)) (λ _. tt)) yes (λ κs x f. refl), tt)
    (#self (args E)) here (code.unfolded 𝓤 H 𝓜 𝓡 wired (X, tt)) (λ κs. (shr_vals, tt))
    (λ κs. (shr_Tells (named 0) κs.0 (Rg (named_lft 3 1 tt κs) E), tt)) (λ κs qs bounds a gh are.
    let z : (walk_of 𝓛 ended stayed held).Ghost = ((κs, qs, bounds, a, (shr_vals a.0, tt)), gh) in
    let κ = z.0.0.0 in let κ₁ = z.0.0.1.0 in let κ₂ = z.0.0.1.1.0 in let q = z.0.1.0 in let q₁ = z.0.1.1.0 in let q₂ = z.0.1.1.1.0 in
    let rb : ℕ = z.0.3.0.ref_ptr.0 in let ro : ℕ = z.0.3.0.ref_ptr.1 in let d : rg_d E = z.0.3.0.now in
    let a : NamedLft = named_lft 3 0 tt z.0.0 in let c : NamedLft = named_lft 3 1 tt z.0.0 in
    qed 𝓛 (((‵ (flft κ q) ⊛ ‵ (flft κ₁ q₁) ⊛ ‵ (flft κ₂ q₂) ⊛ ‵ ftrue) ⊛ ‵ (owns (types_at ended.signature.params z.0.0) z.0.3 z.0.4)) ∷ (raw (fact 𝓤 (κ₂ ⊑ E.row.lives)) ⊛ ‵ ftrue) ∷ []) ∵
    move ! (1 ∷ []) $ drop ! $ split ! $ split3 ! $ move ! (2 ∷ []) $ split ! $ move ! (4 ∷ []) $ fsplit ! $ fsplit ! $ drop ! $
    use1 𝓛 (‵ (hidden_shr (Rg a E) κ d rb ro)) (narrows E a c 𝓛 z.0.2.0 d rb ro) $
    keep ! (0 ∷ 4 ∷ 5 ∷ 2 ∷ []) $
    -- [the region, shared; the `&`'s token; the region's token; A's]
    enter ! 𝓣.C 𝓣.Λ here (vptr rb ro ∷ []) _ $ alloc_all ! (λ l. pass_all ! refl ((tt, tt), tt) $
    sets ! (agg ! (and_then ! (lit ! tt) (and_then ! (get ! refl) (no_more !)))) refl (tt, (record { fits = lit< tt }, (tt, tt))) $
    returns ! (look_at ! 0 refl) $ free_all ! refl $
    suffices ! _ (ends_at 𝓛 ended stayed held z (live 0 (vcons (vptr rb ro) vnil)) (Part (record { ref_ptr = (rb, ro); now = d })) (tt, tt) (tt, tt)) $ says ! refl $
    feq_i ! (List Val) (vptr rb ro ∷ []) (vptr rb ro ∷ []) refl $ fjoin ! $
    use1 𝓛 (‵ ((S-type.the_row a (R E)).own_val (Part (record { ref_ptr = (rb, ro); now = d })) (live 0 (vcons (vptr rb ro) vnil) ∷ []))) (Part-of E a c 𝓛 (record { ref_ptr = (rb, ro); now = d }) (vptr rb ro)) $
    nothing ! $ nothing ! $ fjoin ! $ join ! $ nothing ! $ move ! (4 ∷ 0 ∷ []) $ join ! $ move ! (3 ∷ 0 ∷ []) $ join ! $ move ! (2 ∷ 0 ∷ []) $ join ! $ join ! $ done !))

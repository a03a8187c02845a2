-- `get_mut` lends the element at one place, and the region follows it. Assumes `Logic`.
use Rattle.nd_region.proofs.SeparationLogicImports.{refl, ℕ, ◌+◌, ◌*◌, ◌<◌, ◌^◌, List, [], ◌∷◌, set, full_share, Fn, w64, named, inst_fn, Val, vint, vptr, SProp, GName, ftrue, flft, ◌⊑◌, fact, tables, Memory, Env, ‵, raw, ◌⊛◌, some, later, at_ret, ◌$◌, ◌∵◌, !, qed, move, keep, drop, use2, use3, split, split3, join, pick, rewrite, fsplit, fsplit3, fjoin, frame, await, suffices, done, whole, sub, look_in, stop, fld, load, addr, size_lit, of_opd, bin, first, blocks, exec, returns, enter, alloc_all, pass_all, free_all, look_at, get, through, sets, sets_last, env, Array, usize, RefMutOf, yes, no, follows, follows_then, cell_at, uint_vals, uint_Tells, owns, block_ptr, NamedLft, mut_vals, mut_Tells, plain, named_lft, types_at, nothing, heard, opens, closes, Ended, says, Stays, stay_dropped, walk_of, ends_at, Goes-dropped, Goes-spent_ref}
use Rattle.std.specs.Prelude.{IsSome}
use Rattle.std.proofs.VecSteps.Shapes.{after}
use Rattle.std.proofs.raw_atomic.Walks.{proved}
use Rattle.std.proofs.mem.Param.{El, R, args, el_x}
use Rattle.nd_region.specs.Region.{region_stored, with_items, with_element}
use Rattle.nd_region.proofs.RegionValueAndPlaces.{Rg, rg_d, rg_val, rg_had, rg_made, sz, held_at, told, place_within, Held, times_below, one_below}
use Rattle.nd_region.proofs.RegionReborrows.{Handed, hands, SpotLent, lends_spot}
use Rattle.nd_region.specs.contracts.divided_mutable_borrow.Region.get_mut as F
use Rattle.nd_region.specs.contracts.divided_mutable_borrow.Region.get_mut.Key.{name as #self}
use Rattle.nd_region.proofs.divided_mutable_borrow.Region.get_mut.Statement as stated
use Rattle.nd_region.proofs.divided_mutable_borrow.Region.get_mut.Code as code

pub get_mut_spec : {M : Type 1} → stated.statement M
get_mut_spec 𝓤 𝓛 𝓜 𝓡 wired X L =
    let H = 𝓛.H in let 𝓣 = tables 𝓤 H 𝓜 𝓡 𝓡.env in let E : El = record { row = X; laws = L } in
    let here : Fn = inst_fn (args E) code.function in let ended : Ended = F.ended X in let held = F.clauses X 𝓛 𝓜.mem 𝓡.returns in
    let stayed : Stays ended.signature.params ended.kept = (stay_dropped (RefMutOf (0 ∷ []) tt (plain (λ κs. Rg (named_lft 3 1 tt κs) E)) (λ _. tt)) no, (stay_dropped (plain (λ _. usize)) yes, tt)) in
    proved 𝓛 ended stayed held 𝓜 𝓡 (Goes-spent_ref 𝓛 3 (0 ∷ []) tt (plain (λ κs. Rg (named_lft 3 1 tt κs) E)), (Goes-dropped 𝓛 3 (plain (λ _. usize)) yes (λ κs x f. refl), tt))
    (#self (args E)) here (code.unfolded 𝓤 H 𝓜 𝓡 wired (X, tt)) (λ κs. (mut_vals, (uint_vals w64, tt)))
    (λ κs. (mut_Tells (named 0) κs.0 (Rg (named_lft 3 1 tt κs) E), (uint_Tells w64, tt))) (λ κs qs bounds a gh are.
    let z : (walk_of 𝓛 ended stayed held).Ghost = ((κs, qs, bounds, a, (mut_vals a.0, (uint_vals w64 a.1.0, tt))), gh) in
    let κ = z.0.0.0 in let κ₁ = z.0.0.1.0 in let κ₂ = z.0.0.1.1.0 in let q = z.0.1.0 in let q₁ = z.0.1.1.0 in let q₂ = z.0.1.1.1.0 in
    let rb : ℕ = z.0.3.0.ref_ptr.0 in let ro : ℕ = z.0.3.0.ref_ptr.1 in let γ : GName = z.0.3.0.ghost_name in let d : rg_d E = z.0.3.0.now in let i : ℕ = z.0.3.1.0 in
    let a : NamedLft = named_lft 3 1 tt z.0.0 in
    let Post : Val → SProp 𝓤 = (walk_of 𝓛 ended stayed held).post z in
    let Ok : Type 0 = IsSome (region_stored d i) in
    let s : ℕ = sz E in
    qed 𝓛 (((‵ (flft κ q) ⊛ ‵ (flft κ₁ q₁) ⊛ ‵ (flft κ₂ q₂) ⊛ ‵ ftrue) ⊛ ‵ (owns (types_at ended.signature.params z.0.0) z.0.3 z.0.4)) ∷ (raw (fact 𝓤 (κ₂ ⊑ E.row.lives)) ⊛ raw (fact 𝓤 Ok)) ∷ []) ∵
    move ! (1 ∷ []) $ split ! $ drop ! $ heard ! Ok (λ ok.
    let g : Held d.items d.held i = held_at d.items d.held i ok in let x : el_x E = g.0 in
    split ! $ split3 ! $ move ! (2 ∷ []) $ split ! $ move ! (4 ∷ []) $ fsplit ! $ fsplit3 ! $ keep ! (1 ∷ 2 ∷ 6 ∷ 7 ∷ 4 ∷ []) $
    -- [obs; the borrow; the `&mut`'s token; the region's; A's]
    enter ! 𝓣.C 𝓣.Λ here (vptr rb ro ∷ vint w64 i ∷ []) _ $ alloc_all ! (λ l. pass_all ! refl ((tt, tt), ((tt, record { fits = are.1.0.1 }), tt)) $
    let En : Env 𝓤 H = env here.locals l in
    opens ! tt (Rg a E) {h = d} rb ro (λ vs. move ! (1 ∷ []) $ rg_had a E ! d vs (λ b o at is fn fit long.
    let lt : i < d.len = place_within d.items d.held i d.len long g in
    let tiny : s < 2 ^ 64 = one_below d.len s i lt fit in let far : i * s < 2 ^ 64 = times_below i d.len s lt fit in
    rewrite ! 1 (λ (ws : List Val). ‵ (cell_at full_share (Rg a E).mir ws rb ro)) is refl $
    first ! $ blocks ! $
    sets ! (of_opd ! (load ! (through ! refl (fld ! refl (stop !))) (look_in ! 1 (sub ! 0 refl (whole !))))) refl (tt, tt) $
    rg_made a E ! d b o at fn fit long $ move ! (1 ∷ 0 ∷ []) $ closes ! tt (Rg a E) d (rg_val (block_ptr b o) d.len ∷ []) rb ro $
    sets ! (bin ! (get ! refl) (size_lit ! (record { fits = tiny })) (record { fits = far })) refl (tt, record { fits = far }) $
    sets ! (bin ! (get ! refl) (get ! refl) tt) refl (tt, tt) $ sets_last ! (addr ! (through ! refl (stop !))) refl (tt, tt) $
    exec ! 𝓣.C 𝓣.Λ En (after 1 here.body) (at_ret En Post) $ sets ! (of_opd ! (get ! refl)) refl (tt, tt) $
    use3 𝓛 (later (some (Handed a E 𝓛 κ q rb ro γ d b o))) (hands a E 𝓛 κ q rb ro γ d b o at fit long z.0.2.0) $ await ! tt $ pick ! (λ δ. split3 ! $ move ! (0 ∷ 1 ∷ []) $
    use2 𝓛 (later (some (SpotLent E 𝓛 (named 0) κ q b o δ d.items d.held i x g.1))) (lends_spot E 𝓛 (named 0) κ q b o δ d.items d.held i x g.1) $ await ! tt $ pick ! (λ δ'. split3 ! $ move ! (3 ∷ 2 ∷ []) $
    use2 𝓛 (‵ (follows (Rg a E) (R E) γ δ' (with_element d i))) (follows_then 𝓛 (Rg a E) (Array (R E) 0) (R E) (with_items d) (λ w. set d.items i w) γ δ δ') $ move ! (1 ∷ 2 ∷ 0 ∷ []) $
    returns ! (look_at ! 0 refl) $ free_all ! refl $
    suffices ! _ (ends_at 𝓛 ended stayed held z (vptr b (i * s + o)) (record { ref_ptr = (b, i * s + o); ghost_name = δ'; now = x }) (tt, (tt, tt)) (tt, (tt, tt))) $
    nothing ! $ nothing ! $ fjoin ! $ nothing ! $ fjoin ! $ join ! $ nothing ! $ move ! (5 ∷ 0 ∷ []) $ join ! $ move ! (4 ∷ 0 ∷ []) $ join ! $ move ! (2 ∷ 0 ∷ []) $ join ! $ join ! $ frame ! $ says ! (told d.items d.held i g) $ done !)))))))

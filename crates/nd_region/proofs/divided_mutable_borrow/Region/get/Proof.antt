-- `get` shows the element at one place. Assumes `Logic`.
use Rattle.nd_region.proofs.SeparationLogicImports.{refl, ℕ, ◌+◌, ◌*◌, ◌<◌, ◌^◌, List, [], ◌∷◌, ◌++◌, length, Fn, w64, named, inst_fn, Val, vint, vptr, SProp, id⊢, never, Incl-refl, ftrue, feq, flt, flft, ◌⊑◌, ⊑_meet, fact, tables, Memory, Env, ‵, raw, ◌⊛◌, at_ret, ◌$◌, ◌∵◌, !, qed, move, keep, drop, use1, split, split3, join, rewrite, fsplit, fjoin, feq_i, feq_l, flt_l, suffices, done, look, stop, fld, load, addr, size_lit, of_opd, bin, first, blocks, exec, returns, enter, alloc_all, pass_all, free_all, look_at, get, through, sets, sets_last, env, usize, RefOf, yes, hidden_shr, uint_vals, uint_Tells, owns, Ptr, RawPtr, in_block, in_a_block, NamedLft, shr_vals, shr_Tells, plain, named_lft, types_at, nothing, heard, Ended, says, Stays, stay_dropped, walk_of, ends_at, Goes-dropped}
use Rattle.std.specs.Prelude.{IsSome}
use Rattle.std.proofs.VecSteps.Shapes.{after}
use Rattle.std.proofs.raw_atomic.Walks.{proved}
use Rattle.std.proofs.mem.Param.{El, R, args, el_x}
use Rattle.nd_region.specs.RegionMemory.{spots_lent}
use Rattle.nd_region.specs.Region.{region_stored}
use Rattle.nd_region.proofs.SharedRegionShows.{shown, spot_seen, pointer_in, pointer_out}
use Rattle.nd_region.proofs.RegionValueAndPlaces.{Rg, rg_d, sz, held_at, told, place_within, Held, times_below, one_below}
use Rattle.nd_region.specs.contracts.divided_mutable_borrow.Region.get as F
use Rattle.nd_region.specs.contracts.divided_mutable_borrow.Region.get.Key.{name as #self}
use Rattle.nd_region.proofs.divided_mutable_borrow.Region.get.Statement as stated
use Rattle.nd_region.proofs.divided_mutable_borrow.Region.get.Code as code

pub get_spec : {M : Type 1} → stated.statement M
get_spec 𝓤 𝓛 𝓜 𝓡 wired X L =
    let H = 𝓛.H in let 𝓣 = tables 𝓤 H 𝓜 𝓡 𝓡.env in let E : El = record { row = X; laws = L } in
    let here : Fn = inst_fn (args E) code.function in let ended : Ended = F.ended X in let held = F.clauses X 𝓛 𝓜.mem 𝓡.returns in
    let stayed : Stays ended.signature.params ended.kept = (stay_dropped (RefOf (0 ∷ []) tt (plain (λ κs. Rg (named_lft 3 1 tt κs) E)) (λ _. tt)) yes, (stay_dropped (plain (λ _. usize)) yes, tt)) in
    proved 𝓛 ended stayed held 𝓜 𝓡 (Goes-dropped 𝓛 3 (RefOf (0 ∷ []) tt (plain (λ κs. Rg (named_lft 3 1 tt κs) E)) (λ _. tt)) yes (λ κs x f. refl), (Goes-dropped 𝓛 3 (plain (λ _. usize)) yes (λ κs x f. refl), tt))
    (#self (args E)) here (code.unfolded 𝓤 H 𝓜 𝓡 wired (X, tt)) (λ κs. (shr_vals, (uint_vals w64, tt)))
    (λ κs. (shr_Tells (named 0) κs.0 (Rg (named_lft 3 1 tt κs) E), (uint_Tells w64, tt))) (λ κs qs bounds a gh are.
    let z : (walk_of 𝓛 ended stayed held).Ghost = ((κs, qs, bounds, a, (shr_vals a.0, (uint_vals w64 a.1.0, tt))), gh) in
    let κ = z.0.0.0 in let κ₁ = z.0.0.1.0 in let κ₂ = z.0.0.1.1.0 in let q = z.0.1.0 in let q₁ = z.0.1.1.0 in let q₂ = z.0.1.1.1.0 in
    let rb : ℕ = z.0.3.0.ref_ptr.0 in let ro : ℕ = z.0.3.0.ref_ptr.1 in let d : rg_d E = z.0.3.0.now in let i : ℕ = z.0.3.1.0 in
    let a : NamedLft = named_lft 3 1 tt z.0.0 in
    let Post : Val → SProp 𝓤 = (walk_of 𝓛 ended stayed held).post z in
    let Ok : Type 0 = IsSome (region_stored d i) in
    let s : ℕ = sz E in
    qed 𝓛 (((‵ (flft κ q) ⊛ ‵ (flft κ₁ q₁) ⊛ ‵ (flft κ₂ q₂) ⊛ ‵ ftrue) ⊛ ‵ (owns (types_at ended.signature.params z.0.0) z.0.3 z.0.4)) ∷ (raw (fact 𝓤 (κ₂ ⊑ E.row.lives)) ⊛ raw (fact 𝓤 Ok)) ∷ []) ∵
    move ! (1 ∷ []) $ split ! $ drop ! $ heard ! Ok (λ ok.
    let g : Held d.items d.held i = held_at d.items d.held i ok in let x : el_x E = g.0 in
    split ! $ split3 ! $ move ! (2 ∷ []) $ split ! $ move ! (4 ∷ []) $ fsplit ! $ fsplit ! $ drop ! $
    use1 𝓛 (‵ (hidden_shr RawPtr κ d.ptr rb (ro + 0)) ⊛ ‵ (flt (d.len * s) (2 ^ 63)) ⊛ ‵ (feq ℕ (length d.held) d.len) ⊛ ‵ (in_block d.ptr ftrue) ⊛ ‵ (spots_lent (R E) d.ptr d.items d.held (κ ++ κ₁))) (shown E 𝓛 κ a d rb ro) $
    split3 ! $ move ! (1 ∷ []) $ flt_l ! (λ fit. move ! (1 ∷ []) $ split ! $ feq_l ! (λ long.
    split ! $ in_a_block ! d.ptr (λ p. in_block p ftrue) (id⊢ 𝓤 (never 𝓤)) (λ b o at. drop ! $ rewrite ! 0 (λ (p : Ptr). ‵ (spots_lent (R E) p d.items d.held (κ ++ κ₁))) at refl $
    let lt : i < d.len = place_within d.items d.held i d.len long g in
    let tiny : s < 2 ^ 64 = one_below d.len s i lt fit in let far : i * s < 2 ^ 64 = times_below i d.len s lt fit in
    use1 𝓛 (‵ (hidden_shr (R E) κ x b (i * s + o))) (spot_seen E 𝓛 (κ ++ κ₁) κ (⊑_meet κ κ κ₁ (Incl-refl κ) z.0.2.0) b o d.items d.held i x g.1) $
    keep ! (1 ∷ 5 ∷ 0 ∷ 6 ∷ 3 ∷ []) $
    -- [the pointer; the `&`'s token; the element; the region's token; A's]
    enter ! 𝓣.C 𝓣.Λ here (vptr rb ro ∷ vint w64 i ∷ []) _ $ alloc_all ! (λ l. pass_all ! refl ((tt, tt), ((tt, record { fits = are.1.0.1 }), tt)) $
    let En : Env 𝓤 H = env here.locals l in
    first ! $ blocks ! $ pointer_in ! tt d.ptr b o at rb (ro + 0) (λ q'.
    sets ! (of_opd ! (load ! (through ! refl (fld ! refl (stop !))) (look ! 0 refl))) refl (tt, tt) $
    pointer_out ! tt d.ptr b o at rb (ro + 0) $
    sets ! (bin ! (get ! refl) (size_lit ! (record { fits = tiny })) (record { fits = far })) refl (tt, record { fits = far }) $
    sets ! (bin ! (get ! refl) (get ! refl) tt) refl (tt, tt) $ sets_last ! (addr ! (through ! refl (stop !))) refl (tt, tt) $
    exec ! 𝓣.C 𝓣.Λ En (after 1 here.body) (at_ret En Post) $ sets ! (of_opd ! (get ! refl)) refl (tt, tt) $
    returns ! (look_at ! 0 refl) $ free_all ! refl $
    suffices ! _ (ends_at 𝓛 ended stayed held z (vptr b (i * s + o)) (record { ref_ptr = (b, i * s + o); now = x }) (tt, (tt, tt)) (tt, (tt, tt))) $ says ! (told d.items d.held i g) $
    move ! (1 ∷ []) $ feq_i ! (List Val) (vptr b (i * s + o) ∷ []) (vptr b (i * s + o) ∷ []) refl $ fjoin ! $
    nothing ! $ nothing ! $ fjoin ! $ nothing ! $ fjoin ! $ join ! $ nothing ! $ move ! (4 ∷ 0 ∷ []) $ join ! $ move ! (3 ∷ 0 ∷ []) $ join ! $ move ! (2 ∷ 0 ∷ []) $ join ! $ join ! $ done !)))))))

-- `into_mut` hands out the element at one place for the region's borrow, which follows it. Assumes `Logic`.
use Rattle.nd_region.proofs.SeparationLogicImports.{refl, ap, ℕ, ◌+◌, ◌*◌, ◌<◌, ◌^◌, [], ◌∷◌, Fn, w64, named, inst_fn, Val, vint, vptr, SProp, ftrue, flft, ◌⊑◌, fact, tables, Memory, Env, ‵, raw, ◌⊛◌, some, later, at_ret, ◌$◌, ◌∵◌, !, qed, move, keep, drop, use2, split, split3, join, pick, fsplit, fjoin, frame, await, suffices, done, whole, sub, stop, fld, addr, size_lit, of_opd, bin, first, blocks, exec, returns, enter, alloc_all, pass_all, free_all, look_at, get, get_in, through, sets, sets_last, is as is_value, env, usize, yes, no, uint_vals, uint_Tells, owns, ptr_val, NamedLft, plain, named_lft, types_at, nothing, heard, Ended, says, Stays, stay_dropped, walk_of, ends_at, Goes-dropped}
use Rattle.std.specs.Prelude.{IsSome}
use Rattle.std.proofs.VecSteps.Shapes.{after}
use Rattle.std.proofs.raw_atomic.Walks.{proved}
use Rattle.std.proofs.mem.Param.{El, args, el_x}
use Rattle.nd_region.specs.Region.{region_stored}
use Rattle.nd_region.proofs.RegionValueAndPlaces.{Rg, rg_d, rg_val, rg_vals, rg_Tells, rg_had, ptr_Good, sz, held_at, told, place_within, Held, times_below, one_below}
use Rattle.nd_region.proofs.RegionReborrows.{SpotLent, lends_spot}
use Rattle.nd_region.specs.contracts.divided_mutable_borrow.Region.into_mut as F
use Rattle.nd_region.specs.contracts.divided_mutable_borrow.Region.into_mut.Key.{name as #self}
use Rattle.nd_region.proofs.divided_mutable_borrow.Region.into_mut.Statement as stated
use Rattle.nd_region.proofs.divided_mutable_borrow.Region.into_mut.Code as code

pub into_mut_spec : {M : Type 1} → stated.statement M
into_mut_spec 𝓤 𝓛 𝓜 𝓡 wired X L =
    let H = 𝓛.H in let 𝓣 = tables 𝓤 H 𝓜 𝓡 𝓡.env in let E : El = record { row = X; laws = L } in
    let here : Fn = inst_fn (args E) code.function in let ended : Ended = F.ended X in let held = F.clauses X 𝓛 𝓜.mem 𝓡.returns in
    let stayed : Stays ended.signature.params ended.kept = (stay_dropped (plain (λ κs. Rg (named_lft 2 0 tt κs) E)) no, (stay_dropped (plain (λ _. usize)) yes, tt)) in
    proved 𝓛 ended stayed held 𝓜 𝓡 (Goes-dropped 𝓛 2 (plain (λ κs. Rg (named_lft 2 0 tt κs) E)) no (λ κs x f. refl), (Goes-dropped 𝓛 2 (plain (λ _. usize)) yes (λ κs x f. refl), tt))
    (#self (args E)) here (code.unfolded 𝓤 H 𝓜 𝓡 wired (X, tt)) (λ κs. (rg_vals (named_lft 2 0 tt κs) E, (uint_vals w64, tt)))
    (λ κs. (rg_Tells (named_lft 2 0 tt κs) E, (uint_Tells w64, tt))) (λ κs qs bounds a gh are.
    let z : (walk_of 𝓛 ended stayed held).Ghost = ((κs, qs, bounds, a, (rg_vals (named_lft 2 0 tt κs) E a.0, (uint_vals w64 a.1.0, tt))), gh) in
    let κ = z.0.0.0 in let κ₁ = z.0.0.1.0 in let q = z.0.1.0 in let q₁ = z.0.1.1.0 in let d : rg_d E = z.0.3.0 in let i : ℕ = z.0.3.1.0 in
    let a : NamedLft = named_lft 2 0 tt z.0.0 in
    let Post : Val → SProp 𝓤 = (walk_of 𝓛 ended stayed held).post z in
    let Ok : Type 0 = IsSome (region_stored d i) in
    let s : ℕ = sz E in
    qed 𝓛 (((‵ (flft κ q) ⊛ ‵ (flft κ₁ q₁) ⊛ ‵ ftrue) ⊛ ‵ (owns (types_at ended.signature.params z.0.0) z.0.3 z.0.4)) ∷ (raw (fact 𝓤 (κ₁ ⊑ E.row.lives)) ⊛ raw (fact 𝓤 Ok)) ∷ []) ∵
    move ! (1 ∷ []) $ split ! $ drop ! $ heard ! Ok (λ ok.
    let g : Held d.items d.held i = held_at d.items d.held i ok in let x : el_x E = g.0 in
    split ! $ split3 ! $ move ! (3 ∷ []) $ fsplit ! $ keep ! (0 ∷ 2 ∷ 3 ∷ []) $
    enter ! 𝓣.C 𝓣.Λ here (rg_val d.ptr d.len ∷ vint w64 i ∷ []) _ $
    alloc_all ! (λ l. pass_all ! refl (((ptr_Good d.ptr).0, ((ptr_Good d.ptr).1, (record { fits = d.small }, (tt, tt)))), ((tt, record { fits = are.1.0.1 }), tt)) $
    let En : Env 𝓤 H = env here.locals l in
    rg_had a E ! d (rg_vals a E d) (λ b o at is fn fit long.
    let lt : i < d.len = place_within d.items d.held i d.len long g in
    let tiny : s < 2 ^ 64 = one_below d.len s i lt fit in let far : i * s < 2 ^ 64 = times_below i d.len s lt fit in
    sets ! (is_value ! (of_opd ! (get_in ! (fld ! refl (stop !)) (sub ! 0 refl (whole !)))) (ap ptr_val at)) refl (tt, tt) $
    first ! $ blocks ! $
    sets ! (bin ! (get ! refl) (size_lit ! (record { fits = tiny })) (record { fits = far })) refl (tt, record { fits = far }) $
    sets ! (bin ! (get ! refl) (get ! refl) tt) refl (tt, tt) $ sets_last ! (addr ! (through ! refl (stop !))) refl (tt, tt) $
    exec ! 𝓣.C 𝓣.Λ En (after 2 here.body) (at_ret En Post) $ sets ! (of_opd ! (get ! refl)) refl (tt, tt) $
    use2 𝓛 (later (some (SpotLent E 𝓛 (named 0) κ q b o d.name d.items d.held i x g.1))) (lends_spot E 𝓛 (named 0) κ q b o d.name d.items d.held i x g.1) $ await ! tt $ pick ! (λ δ. split3 ! $
    returns ! (look_at ! 0 refl) $ free_all ! refl $
    suffices ! _ (ends_at 𝓛 ended stayed held z (vptr b (i * s + o)) (record { ref_ptr = (b, i * s + o); ghost_name = δ; now = x }) (tt, (tt, tt)) (tt, (tt, tt))) $
    nothing ! $ nothing ! $ fjoin ! $ nothing ! $ fjoin ! $ join ! $ nothing ! $ move ! (4 ∷ 0 ∷ []) $ join ! $ move ! (2 ∷ 0 ∷ []) $ join ! $ join ! $ frame ! $ says ! (told d.items d.held i g) $ done !)))))

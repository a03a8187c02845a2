-- `into_run` hands out a run of places for the region's borrow, which follows it. Assumes `Logic`.
use Rattle.nd_region.proofs.SeparationLogicImports.{◌≡◌, refl, sym, ap, subst, ℕ, ◌+◌, ◌*◌, ◌<◌, ◌≤◌, ◌^◌, List, [], ◌∷◌, lit<, eqb→eq, length, Fn, w64, named, inst_fn, Val, vint, SProp, ftrue, flft, ◌⊑◌, fact, tables, Memory, Env, ‵, raw, ◌⊛◌, some, later, at_ret, ◌$◌, ◌∵◌, !, qed, move, keep, drop, use2, split, split3, join, pick, rewrite, fsplit, fjoin, frame, await, suffices, done, whole, sub, agg, stop, fld, lit, size_word, no_more, and_then, of_opd, bin, first, blocks, branches, exec, returns, enter, alloc_all, pass_all, free_all, look_at, get, get_in, sets, sets_last, is as is_value, env, usize, yes, no, uint_vals, uint_Tells, owns, ptr_val, MutBor, NamedLft, MutSlice, Room, slice_val, plain, named_lft, types_at, nothing, heard, Ended, says, Stays, stay_dropped, walk_of, ends_at, Goes-dropped}
use native.Mathlib.Omega.{arith}
use Rattle.std.proofs.VecSteps.Shapes.{after}
use Rattle.std.proofs.raw_atomic.Walks.{proved}
use Rattle.std.proofs.mem.Param.{El, R, args, el_x}
use Rattle.nd_region.specs.Region.{HasRun}
use Rattle.nd_region.proofs.RegionValueAndPlaces.{Rg, rg_d, rg_val, rg_vals, rg_Tells, rg_had, ptr_Good, sz}
use Rattle.nd_region.proofs.RunLoans.{run, count, RunLent, lends_run}
use Rattle.nd_region.proofs.RunsOfPlaces.{IsAt, at_first, at_place, start_fits, start_word, run_room, uncapped, above_zero}
use Rattle.nd_region.specs.contracts.divided_mutable_borrow.Region.into_run as F
use Rattle.nd_region.specs.contracts.divided_mutable_borrow.Region.into_run.Key.{name as #self}
use Rattle.nd_region.proofs.divided_mutable_borrow.Region.into_run.Statement as stated
use Rattle.nd_region.proofs.divided_mutable_borrow.Region.into_run.Code as code

pub into_run_spec : {M : Type 1} → stated.statement M
into_run_spec 𝓤 𝓛 𝓜 𝓡 wired X L =
    let H = 𝓛.H in let 𝓣 = tables 𝓤 H 𝓜 𝓡 𝓡.env in let E : El = record { row = X; laws = L } in
    let here : Fn = inst_fn (args E) code.function in let ended : Ended = F.ended X in let held = F.clauses X 𝓛 𝓜.mem 𝓡.returns in
    let stayed : Stays ended.signature.params ended.kept = (stay_dropped (plain (λ κs. Rg (named_lft 2 0 tt κs) E)) no, (stay_dropped (plain (λ _. usize)) yes, (stay_dropped (plain (λ _. usize)) yes, tt))) in
    proved 𝓛 ended stayed held 𝓜 𝓡 (Goes-dropped 𝓛 2 (plain (λ κs. Rg (named_lft 2 0 tt κs) E)) no (λ κs x f. refl), (Goes-dropped 𝓛 2 (plain (λ _. usize)) yes (λ κs x f. refl), (Goes-dropped 𝓛 2 (plain (λ _. usize)) yes (λ κs x f. refl), tt)))
    (#self (args E)) here (code.unfolded 𝓤 H 𝓜 𝓡 wired (X, tt)) (λ κs. (rg_vals (named_lft 2 0 tt κs) E, (uint_vals w64, (uint_vals w64, tt))))
    (λ κs. (rg_Tells (named_lft 2 0 tt κs) E, (uint_Tells w64, (uint_Tells w64, tt)))) (λ κs qs bounds a gh are.
    let z : (walk_of 𝓛 ended stayed held).Ghost = ((κs, qs, bounds, a, (rg_vals (named_lft 2 0 tt κs) E a.0, (uint_vals w64 a.1.0, (uint_vals w64 a.1.1.0, tt)))), gh) in
    let κ = z.0.0.0 in let κ₁ = z.0.0.1.0 in let q = z.0.1.0 in let q₁ = z.0.1.1.0 in let d : rg_d E = z.0.3.0 in let p : ℕ = z.0.3.1.0 in let n : ℕ = z.0.3.1.1.0 in
    let a : NamedLft = named_lft 2 0 tt z.0.0 in
    let Post : Val → SProp 𝓤 = (walk_of 𝓛 ended stayed held).post z in
    let Ok : Type 0 = HasRun d p n in
    let s : ℕ = sz E in
    qed 𝓛 (((‵ (flft κ q) ⊛ ‵ (flft κ₁ q₁) ⊛ ‵ ftrue) ⊛ ‵ (owns (types_at ended.signature.params z.0.0) z.0.3 z.0.4)) ∷ (raw (fact 𝓤 (κ₁ ⊑ E.row.lives)) ⊛ raw (fact 𝓤 Ok)) ∷ []) ∵
    move ! (1 ∷ []) $ split ! $ drop ! $ heard ! Ok (λ ok.
    split ! $ split3 ! $ move ! (3 ∷ []) $ fsplit ! $ keep ! (0 ∷ 2 ∷ 3 ∷ []) $
    enter ! 𝓣.C 𝓣.Λ here (rg_val d.ptr d.len ∷ vint w64 p ∷ vint w64 n ∷ []) _ $
    alloc_all ! (λ l. pass_all ! refl (((ptr_Good d.ptr).0, ((ptr_Good d.ptr).1, (record { fits = d.small }, (tt, tt)))), ((tt, record { fits = are.1.0.1 }), ((tt, record { fits = are.1.1.0.1 }), tt))) $
    let En : Env 𝓤 H = env here.locals l in
    rg_had a E ! d (rg_vals a E d) (λ b o at is f_len fit long.
    sets ! (is_value ! (of_opd ! (get_in ! (fld ! refl (stop !)) (sub ! 0 refl (whole !)))) (ap ptr_val at)) refl (tt, tt) $
    sets ! (bin ! (get ! refl) (lit ! tt) tt) refl (tt, tt) $
    first ! $ branches ! (get ! refl)
    (λ yes. sets_last ! (of_opd ! (lit ! tt)) refl (tt, record { fits = lit< tt }) $ exec ! 𝓣.C 𝓣.Λ En (after 3 here.body) (at_ret En Post) $
    let st : ℕ = 0 in let here_is : IsAt d.items d.held p n st = at_first d.items d.held p n (eqb→eq n 0 yes) in
    let small : st + n ≤ d.len = omega (arith, here_is.in_mask, long) in let far : st * s < 2 ^ 64 = start_fits d.len s st fit (omega (arith, small)) in
    sets ! (of_opd ! (get ! refl)) refl (tt, record { fits = start_word d.len st d.small (omega (arith, small)) }) $ first ! $ blocks ! $
    sets ! (is_value ! (bin ! (get ! refl) (size_word !) (record { fits = subst (λ (k : ℕ). k < 2 ^ 64) (sym (uncapped st s far)) far })) (ap (vint w64) (uncapped st s far))) refl (tt, record { fits = far }) $
    sets ! (bin ! (get ! refl) (get ! refl) tt) refl (tt, tt) $
    sets_last ! (agg ! (and_then ! (get ! refl) (and_then ! (get ! refl) (no_more !)))) refl (tt, (tt, (record { fits = are.1.1.0.1 }, tt))) $
    exec ! 𝓣.C 𝓣.Λ En (after 5 here.body) (at_ret En Post) $ sets ! (of_opd ! (get ! refl)) refl (tt, (tt, (record { fits = are.1.1.0.1 }, tt))) $
    let at_run : ℕ = st * s + o in let xs : List (el_x E) = run E 𝓛 b d.items d.held p n st here_is o in let many : length xs ≡ n = count E 𝓛 b d.items d.held p n st here_is o in
    let rm : Room (R E) (length xs) = run_room E d.len (length xs) d.small fit (omega (arith, many, small)) in
    use2 𝓛 (later (some (RunLent E 𝓛 b d.items d.held p n st here_is o (named 0) κ q d.name rm))) (lends_run E 𝓛 b d.items d.held p n st here_is o (named 0) κ q d.name rm) $ await ! tt $ pick ! (λ δ. split3 ! $
    let r : MutBor (List (el_x E)) = record { ref_ptr = (b, at_run); ghost_name = δ; now = xs } in
    rewrite ! 0 (λ (k : ℕ). ‵ ((MutSlice (named 0) κ (R E)).own_val r (slice_val (b, at_run) k ∷ []))) many refl $
    returns ! (look_at ! 0 refl) $ free_all ! refl $
    suffices ! _ (ends_at 𝓛 ended stayed held z (slice_val (b, at_run) n) r (tt, (tt, (tt, tt))) (tt, (tt, (tt, tt)))) $
    nothing ! $ nothing ! $ fjoin ! $ nothing ! $ fjoin ! $ nothing ! $ fjoin ! $ join ! $ nothing ! $ move ! (4 ∷ 0 ∷ []) $ join ! $ move ! (2 ∷ 0 ∷ []) $ join ! $ join ! $ frame ! $ says ! (many, here_is.values) $ done !))
    (λ other. sets_last ! (of_opd ! (get ! refl)) refl (tt, record { fits = are.1.0.1 }) $ exec ! 𝓣.C 𝓣.Λ En (after 3 here.body) (at_ret En Post) $
    let st : ℕ = p in let here_is : IsAt d.items d.held p n st = at_place d.items d.held p n (above_zero n other) ok in
    let small : st + n ≤ d.len = omega (arith, here_is.in_mask, long) in let far : st * s < 2 ^ 64 = start_fits d.len s st fit (omega (arith, small)) in
    sets ! (of_opd ! (get ! refl)) refl (tt, record { fits = start_word d.len st d.small (omega (arith, small)) }) $ first ! $ blocks ! $
    sets ! (is_value ! (bin ! (get ! refl) (size_word !) (record { fits = subst (λ (k : ℕ). k < 2 ^ 64) (sym (uncapped st s far)) far })) (ap (vint w64) (uncapped st s far))) refl (tt, record { fits = far }) $
    sets ! (bin ! (get ! refl) (get ! refl) tt) refl (tt, tt) $
    sets_last ! (agg ! (and_then ! (get ! refl) (and_then ! (get ! refl) (no_more !)))) refl (tt, (tt, (record { fits = are.1.1.0.1 }, tt))) $
    exec ! 𝓣.C 𝓣.Λ En (after 5 here.body) (at_ret En Post) $ sets ! (of_opd ! (get ! refl)) refl (tt, (tt, (record { fits = are.1.1.0.1 }, tt))) $
    let at_run : ℕ = st * s + o in let xs : List (el_x E) = run E 𝓛 b d.items d.held p n st here_is o in let many : length xs ≡ n = count E 𝓛 b d.items d.held p n st here_is o in
    let rm : Room (R E) (length xs) = run_room E d.len (length xs) d.small fit (omega (arith, many, small)) in
    use2 𝓛 (later (some (RunLent E 𝓛 b d.items d.held p n st here_is o (named 0) κ q d.name rm))) (lends_run E 𝓛 b d.items d.held p n st here_is o (named 0) κ q d.name rm) $ await ! tt $ pick ! (λ δ. split3 ! $
    let r : MutBor (List (el_x E)) = record { ref_ptr = (b, at_run); ghost_name = δ; now = xs } in
    rewrite ! 0 (λ (k : ℕ). ‵ ((MutSlice (named 0) κ (R E)).own_val r (slice_val (b, at_run) k ∷ []))) many refl $
    returns ! (look_at ! 0 refl) $ free_all ! refl $
    suffices ! _ (ends_at 𝓛 ended stayed held z (slice_val (b, at_run) n) r (tt, (tt, (tt, tt))) (tt, (tt, (tt, tt)))) $
    nothing ! $ nothing ! $ fjoin ! $ nothing ! $ fjoin ! $ nothing ! $ fjoin ! $ join ! $ nothing ! $ move ! (4 ∷ 0 ∷ []) $ join ! $ move ! (2 ∷ 0 ∷ []) $ join ! $ join ! $ frame ! $ says ! (many, here_is.values) $ done !))))))

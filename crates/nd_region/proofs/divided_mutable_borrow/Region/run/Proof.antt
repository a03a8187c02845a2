-- `run` shows a run of places. Assumes `Logic`.
use Rattle.nd_region.proofs.SeparationLogicImports.{◌≡◌, refl, sym, ap, subst, ℕ, ◌+◌, ◌*◌, ◌<◌, ◌≤◌, ◌^◌, List, [], ◌∷◌, ◌++◌, lit<, eqb→eq, length, take, Fn, w64, named, inst_fn, Val, vint, vptr, SProp, id⊢, never, Incl-refl, ftrue, fhide, feq, flt, flft, ◌⊑◌, ⊑_meet, fact, tables, Memory, Env, ‵, raw, ◌⊛◌, at_ret, ◌$◌, ◌∵◌, !, qed, move, keep, drop, use1, split, split3, join, rewrite, fsplit, fjoin, feq_l, flt_l, suffices, done, agg, look, stop, fld, load, lit, size_word, no_more, and_then, of_opd, bin, first, blocks, branches, exec, returns, enter, alloc_all, pass_all, free_all, look_at, get, through, sets, sets_last, is as is_value, env, usize, RefOf, yes, hidden_shr, uint_vals, uint_Tells, owns, Ptr, RawPtr, in_block, in_a_block, Bor, NamedLft, shr_vals, shr_Tells, pure_i, Room, slice_val, elements_shared, shr_slice_at, plain, named_lft, types_at, nothing, heard, Ended, says, Stays, stay_dropped, walk_of, ends_at, Goes-dropped}
use lib.ListN.{drop as drop_l}
use native.Mathlib.Omega.{arith}
use Rattle.std.proofs.VecSteps.Shapes.{after}
use Rattle.std.proofs.raw_atomic.Walks.{proved}
use Rattle.std.proofs.mem.Param.{El, R, args, el_x}
use Rattle.nd_region.specs.RegionMemory.{spots_lent}
use Rattle.nd_region.specs.Region.{HasRun}
use Rattle.nd_region.proofs.SharedRegionShows.{shown, run_seen, pointer_in, pointer_out}
use Rattle.nd_region.proofs.RegionValueAndPlaces.{Rg, rg_d, sz}
use Rattle.nd_region.proofs.RunLoans.{count}
use Rattle.nd_region.proofs.RunsOfPlaces.{IsAt, at_first, at_place, start_fits, start_word, run_room, uncapped, above_zero}
use Rattle.nd_region.specs.contracts.divided_mutable_borrow.Region.run as F
use Rattle.nd_region.specs.contracts.divided_mutable_borrow.Region.run.Key.{name as #self}
use Rattle.nd_region.proofs.divided_mutable_borrow.Region.run.Statement as stated
use Rattle.nd_region.proofs.divided_mutable_borrow.Region.run.Code as code

pub run_spec : {M : Type 1} → stated.statement M
run_spec 𝓤 𝓛 𝓜 𝓡 wired X L =
    let H = 𝓛.H in let 𝓣 = tables 𝓤 H 𝓜 𝓡 𝓡.env in let E : El = record { row = X; laws = L } in
    let here : Fn = inst_fn (args E) code.function in let ended : Ended = F.ended X in let held = F.clauses X 𝓛 𝓜.mem 𝓡.returns in
    let stayed : Stays ended.signature.params ended.kept = (stay_dropped (RefOf (0 ∷ []) tt (plain (λ κs. Rg (named_lft 3 1 tt κs) E)) (λ _. tt)) yes, (stay_dropped (plain (λ _. usize)) yes, (stay_dropped (plain (λ _. usize)) yes, tt))) in
    proved 𝓛 ended stayed held 𝓜 𝓡 (Goes-dropped 𝓛 3 (RefOf (0 ∷ []) tt (plain (λ κs. Rg (named_lft 3 1 tt κs) E)) (λ _. tt)) yes (λ κs x f. refl), (Goes-dropped 𝓛 3 (plain (λ _. usize)) yes (λ κs x f. refl), (Goes-dropped 𝓛 3 (plain (λ _. usize)) yes (λ κs x f. refl), tt)))
    (#self (args E)) here (code.unfolded 𝓤 H 𝓜 𝓡 wired (X, tt)) (λ κs. (shr_vals, (uint_vals w64, (uint_vals w64, tt))))
    (λ κs. (shr_Tells (named 0) κs.0 (Rg (named_lft 3 1 tt κs) E), (uint_Tells w64, (uint_Tells w64, tt)))) (λ κs qs bounds a gh are.
    let z : (walk_of 𝓛 ended stayed held).Ghost = ((κs, qs, bounds, a, (shr_vals a.0, (uint_vals w64 a.1.0, (uint_vals w64 a.1.1.0, tt)))), gh) in
    let κ = z.0.0.0 in let κ₁ = z.0.0.1.0 in let κ₂ = z.0.0.1.1.0 in let q = z.0.1.0 in let q₁ = z.0.1.1.0 in let q₂ = z.0.1.1.1.0 in
    let rb : ℕ = z.0.3.0.ref_ptr.0 in let ro : ℕ = z.0.3.0.ref_ptr.1 in let d : rg_d E = z.0.3.0.now in let p : ℕ = z.0.3.1.0 in let n : ℕ = z.0.3.1.1.0 in
    let a : NamedLft = named_lft 3 1 tt z.0.0 in
    let Post : Val → SProp 𝓤 = (walk_of 𝓛 ended stayed held).post z in
    let Ok : Type 0 = HasRun d p n in
    let s : ℕ = sz E in
    qed 𝓛 (((‵ (flft κ q) ⊛ ‵ (flft κ₁ q₁) ⊛ ‵ (flft κ₂ q₂) ⊛ ‵ ftrue) ⊛ ‵ (owns (types_at ended.signature.params z.0.0) z.0.3 z.0.4)) ∷ (raw (fact 𝓤 (κ₂ ⊑ E.row.lives)) ⊛ raw (fact 𝓤 Ok)) ∷ []) ∵
    move ! (1 ∷ []) $ split ! $ drop ! $ heard ! Ok (λ ok.
    split ! $ split3 ! $ move ! (2 ∷ []) $ split ! $ move ! (4 ∷ []) $ fsplit ! $ fsplit ! $ drop ! $
    use1 𝓛 (‵ (hidden_shr RawPtr κ d.ptr rb (ro + 0)) ⊛ ‵ (flt (d.len * s) (2 ^ 63)) ⊛ ‵ (feq ℕ (length d.held) d.len) ⊛ ‵ (in_block d.ptr ftrue) ⊛ ‵ (spots_lent (R E) d.ptr d.items d.held (κ ++ κ₁))) (shown E 𝓛 κ a d rb ro) $
    split3 ! $ move ! (1 ∷ []) $ flt_l ! (λ fit. move ! (1 ∷ []) $ split ! $ feq_l ! (λ long.
    split ! $ in_a_block ! d.ptr (λ p. in_block p ftrue) (id⊢ 𝓤 (never 𝓤)) (λ b o at. drop ! $ rewrite ! 0 (λ (p : Ptr). ‵ (spots_lent (R E) p d.items d.held (κ ++ κ₁))) at refl $
    keep ! (1 ∷ 5 ∷ 0 ∷ 6 ∷ 3 ∷ []) $
    -- [the pointer; the `&`'s token; the elements; the region's token; A's]
    enter ! 𝓣.C 𝓣.Λ here (vptr rb ro ∷ vint w64 p ∷ vint w64 n ∷ []) _ $ alloc_all ! (λ l. pass_all ! refl ((tt, tt), ((tt, record { fits = are.1.0.1 }), ((tt, record { fits = are.1.1.0.1 }), tt))) $
    let En : Env 𝓤 H = env here.locals l in
    sets ! (bin ! (get ! refl) (lit ! tt) tt) refl (tt, tt) $
    first ! $ branches ! (get ! refl)
    (λ yes. sets_last ! (of_opd ! (lit ! tt)) refl (tt, record { fits = lit< tt }) $ exec ! 𝓣.C 𝓣.Λ En (after 2 here.body) (at_ret En Post) $
    let st : ℕ = 0 in let here_is : IsAt d.items d.held p n st = at_first d.items d.held p n (eqb→eq n 0 yes) in
    let small : st + n ≤ d.len = omega (arith, here_is.in_mask, long) in let far : st * s < 2 ^ 64 = start_fits d.len s st fit (omega (arith, small)) in
    let at_run : ℕ = st * s + o in let xs : List (el_x E) = take n (drop_l st d.items) in let many : length xs ≡ n = count E 𝓛 b d.items d.held p n st here_is o in
    move ! (2 ∷ []) $ use1 𝓛 (‵ (fhide (elements_shared (R E) xs b at_run κ))) (run_seen E 𝓛 (κ ++ κ₁) κ (⊑_meet κ κ κ₁ (Incl-refl κ) z.0.2.0) b o d.items d.held p n st here_is) $ move ! (1 ∷ 2 ∷ 0 ∷ []) $
    sets ! (of_opd ! (get ! refl)) refl (tt, record { fits = start_word d.len st d.small (omega (arith, small)) }) $ first ! $ blocks ! $
    pointer_in ! tt d.ptr b o at rb (ro + 0) (λ q'.
    sets ! (of_opd ! (load ! (through ! refl (fld ! refl (stop !))) (look ! 0 refl))) refl (tt, tt) $
    pointer_out ! tt d.ptr b o at rb (ro + 0) $
    sets ! (is_value ! (bin ! (get ! refl) (size_word !) (record { fits = subst (λ (k : ℕ). k < 2 ^ 64) (sym (uncapped st s far)) far })) (ap (vint w64) (uncapped st s far))) refl (tt, record { fits = far }) $
    sets ! (bin ! (get ! refl) (get ! refl) tt) refl (tt, tt) $
    sets_last ! (agg ! (and_then ! (get ! refl) (and_then ! (get ! refl) (no_more !)))) refl (tt, (tt, (record { fits = are.1.1.0.1 }, tt))) $
    exec ! 𝓣.C 𝓣.Λ En (after 4 here.body) (at_ret En Post) $ sets ! (of_opd ! (get ! refl)) refl (tt, (tt, (record { fits = are.1.1.0.1 }, tt))) $
    let rm : Room (R E) (length xs) = run_room E d.len (length xs) d.small fit (omega (arith, many, small)) in
    let r : Bor (List (el_x E)) = record { ref_ptr = (b, at_run); now = xs } in
    returns ! (look_at ! 0 refl) $ free_all ! refl $
    suffices ! _ (ends_at 𝓛 ended stayed held z (slice_val (b, at_run) n) r (tt, (tt, (tt, tt))) (tt, (tt, (tt, tt)))) $ says ! (many, here_is.values) $
    move ! (1 ∷ []) $ pure_i ! (shr_slice_at (R E) r (slice_val (b, at_run) n ∷ [])) (tt, (tt, tt)) (ap (λ (m : ℕ). slice_val (b, at_run) m ∷ []) (sym many), rm) $ fjoin ! $
    nothing ! $ nothing ! $ fjoin ! $ nothing ! $ fjoin ! $ nothing ! $ fjoin ! $ join ! $ nothing ! $ move ! (4 ∷ 0 ∷ []) $ join ! $ move ! (3 ∷ 0 ∷ []) $ join ! $ move ! (2 ∷ 0 ∷ []) $ join ! $ join ! $ done !))
    (λ other. sets_last ! (of_opd ! (get ! refl)) refl (tt, record { fits = are.1.0.1 }) $ exec ! 𝓣.C 𝓣.Λ En (after 2 here.body) (at_ret En Post) $
    let st : ℕ = p in let here_is : IsAt d.items d.held p n st = at_place d.items d.held p n (above_zero n other) ok in
    let small : st + n ≤ d.len = omega (arith, here_is.in_mask, long) in let far : st * s < 2 ^ 64 = start_fits d.len s st fit (omega (arith, small)) in
    let at_run : ℕ = st * s + o in let xs : List (el_x E) = take n (drop_l st d.items) in let many : length xs ≡ n = count E 𝓛 b d.items d.held p n st here_is o in
    move ! (2 ∷ []) $ use1 𝓛 (‵ (fhide (elements_shared (R E) xs b at_run κ))) (run_seen E 𝓛 (κ ++ κ₁) κ (⊑_meet κ κ κ₁ (Incl-refl κ) z.0.2.0) b o d.items d.held p n st here_is) $ move ! (1 ∷ 2 ∷ 0 ∷ []) $
    sets ! (of_opd ! (get ! refl)) refl (tt, record { fits = start_word d.len st d.small (omega (arith, small)) }) $ first ! $ blocks ! $
    pointer_in ! tt d.ptr b o at rb (ro + 0) (λ q'.
    sets ! (of_opd ! (load ! (through ! refl (fld ! refl (stop !))) (look ! 0 refl))) refl (tt, tt) $
    pointer_out ! tt d.ptr b o at rb (ro + 0) $
    sets ! (is_value ! (bin ! (get ! refl) (size_word !) (record { fits = subst (λ (k : ℕ). k < 2 ^ 64) (sym (uncapped st s far)) far })) (ap (vint w64) (uncapped st s far))) refl (tt, record { fits = far }) $
    sets ! (bin ! (get ! refl) (get ! refl) tt) refl (tt, tt) $
    sets_last ! (agg ! (and_then ! (get ! refl) (and_then ! (get ! refl) (no_more !)))) refl (tt, (tt, (record { fits = are.1.1.0.1 }, tt))) $
    exec ! 𝓣.C 𝓣.Λ En (after 4 here.body) (at_ret En Post) $ sets ! (of_opd ! (get ! refl)) refl (tt, (tt, (record { fits = are.1.1.0.1 }, tt))) $
    let rm : Room (R E) (length xs) = run_room E d.len (length xs) d.small fit (omega (arith, many, small)) in
    let r : Bor (List (el_x E)) = record { ref_ptr = (b, at_run); now = xs } in
    returns ! (look_at ! 0 refl) $ free_all ! refl $
    suffices ! _ (ends_at 𝓛 ended stayed held z (slice_val (b, at_run) n) r (tt, (tt, (tt, tt))) (tt, (tt, (tt, tt)))) $ says ! (many, here_is.values) $
    move ! (1 ∷ []) $ pure_i ! (shr_slice_at (R E) r (slice_val (b, at_run) n ∷ [])) (tt, (tt, tt)) (ap (λ (m : ℕ). slice_val (b, at_run) m ∷ []) (sym many), rm) $ fjoin ! $
    nothing ! $ nothing ! $ fjoin ! $ nothing ! $ fjoin ! $ nothing ! $ fjoin ! $ join ! $ nothing ! $ move ! (4 ∷ 0 ∷ []) $ join ! $ move ! (3 ∷ 0 ∷ []) $ join ! $ move ! (2 ∷ 0 ∷ []) $ join ! $ join ! $ done !))))))))

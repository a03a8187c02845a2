-- `run_if` hands out a run of the region, or ends its borrow as it is. Assumes `Logic`.
use Rattle.nd_region.proofs.SeparationLogicImports.{refl, ap, Bool, true, ℕ, [], ◌∷◌, lit<, emp, id⊢, Lft, Share, ftrue, flft, Args, Fn, a_type, dnil, named, w64, inst_fn, of_list, Env, ◌⊑◌, fact, fact_i, tables, live, ‵, raw, ◌⊛◌, some, later, at_ret, ◌$◌, ◌∵◌, !, qed, done, move, keep, drop, use0, use1, split, join, fsplit3, fjoin, feq_l, pick, await, suffices, frame, agg, enter, lit, no_more, and_then, of_opd, first, branches, exec, returns, alloc_all, pass_all, free_all, look_at, get, sets, sets_last, lands_as, env, Array, usize, bool, unit, yes, no, follows, follows_by, Is, shows, param, bounded, uint_vals, uint_Tells, bool_vals, bool_Tells, RattleType, owns, MutSlice, mut_slice_Lawful, Slot, plain, named_lft, types_at, nothing, heard, only, peeks, calls_at, Ended, Lasts, lasts, Vals, triple_of, framed, Stays, stay_dropped, walk_of, ends_at, Goes-dropped}
use Rattle.std.specs.Prelude.{Some, None, IsTrue}
use Rattle.std.specs.contracts.option.Option as OP
use Rattle.std.proofs.VecSteps.Shapes.{after}
use Rattle.std.proofs.VecSteps.Element.{Some-of, none_of}
use Rattle.std.proofs.mem.Facts.{says_two}
use Rattle.std.proofs.mem.Param.{El}
use Rattle.std.proofs.raw_atomic.Walks.{proved}
use Rattle.nd_region.specs.LenderAfterBorrow.{keeps_elements}
use Rattle.nd_region.specs.RegionPlaces.{overwritten_items, run_written}
use Rattle.nd_region.specs.Region.{HasRun, IsRunOf}
use Rattle.nd_region.proofs.RegionValueAndPlaces.{Rg, rg_vals, rg_Tells, ptr_Good}
use Rattle.nd_array_core.proofs.lending.BoolAndOptionFacts.{is_on, none_asked, both}
use Rattle.nd_region.specs.contracts.divided_mutable_borrow.Region.into_run as R
use Rattle.nd_region.proofs.divided_mutable_borrow.Region.into_run.Met.{met as run_met}
use Rattle.nd_region.specs.contracts.divided_mutable_borrow.Region.end as Q
use Rattle.nd_region.proofs.divided_mutable_borrow.Region.end.Met.{met as end_met}
use Rattle.nd_array_core.specs.contracts.reshape.elements_as_slice_mut.run_if as F
use Rattle.nd_array_core.specs.contracts.reshape.elements_as_slice_mut.run_if.Key.{name as #self}
use Rattle.nd_array_core.proofs.reshape.elements_as_slice_mut.run_if.Statement.{statement}
use Rattle.nd_array_core.proofs.reshape.elements_as_slice_mut.run_if.Code as code

pub run_if_spec : {M : Type 1} → statement M
unfolding follows_by
run_if_spec 𝓤 𝓛 𝓜 𝓡 wired A lA =
    let H = 𝓛.H in let 𝓣 = tables 𝓤 H 𝓜 𝓡 𝓡.env in
    let inst : Args = bounded (a_type ∷ []) (A, tt) dnil in
    let fn : Fn = inst_fn inst code.function in
    let E : El = record { row = A; laws = lA } in let AR : RattleType = param 0 A in
    let En : Ended = F.ended A in
    let c = F.clauses A 𝓛 𝓜.mem 𝓡.returns in
    let region_slot : Slot 2 = plain (λ κs. Rg (named_lft 2 0 tt κs) E) in
    let hs : Stays En.signature.params En.kept = (stay_dropped region_slot no, (stay_dropped (plain (λ _. usize)) yes, (stay_dropped (plain (λ _. usize)) yes, (stay_dropped (plain (λ _. bool)) yes, tt)))) in
    proved 𝓛 En hs c 𝓜 𝓡 (
      Goes-dropped 𝓛 2 region_slot no (λ κs x f. refl),
      (Goes-dropped 𝓛 2 (plain (λ _. usize)) yes (λ κs x f. refl), (Goes-dropped 𝓛 2 (plain (λ _. usize)) yes (λ κs x f. refl), (Goes-dropped 𝓛 2 (plain (λ _. bool)) yes (λ κs x f. refl), tt))),
    ) (#self inst) fn (code.unfolded 𝓤 H 𝓜 𝓡 wired (A, tt))
    (λ κs. (rg_vals (named_lft 2 0 tt κs) E, (uint_vals w64, (uint_vals w64, (bool_vals, tt))))) (λ κs. (rg_Tells (named_lft 2 0 tt κs) E, (uint_Tells w64, (uint_Tells w64, (bool_Tells, tt))))) (λ κs qs bounds a gh are.
    let κ : Lft = κs.0 in let κA : Lft = κs.1.0 in let q : Share = qs.0 in let qA : Share = qs.1.0 in
    let region = a.0 in let place : ℕ = a.1.0 in let count : ℕ = a.1.1.0 in let asked : Bool = a.1.1.1.0 in let gp = ptr_Good region.ptr in
    let vss : Vals En.signature κs = (rg_vals (named_lft 2 0 tt κs) E region, (uint_vals w64 place, (uint_vals w64 count, (bool_vals asked, tt)))) in
    let y : (walk_of 𝓛 En hs c).Ghost = ((κs, qs, bounds, a, vss), gh) in
    let Post = (walk_of 𝓛 En hs c).post y in
    let Lent : RattleType = MutSlice (named 0) κ AR in let Out : RattleType = OP.the_row Lent in
    let R-ended : Ended = R.ended A in
    let R-triple = triple_of 𝓛 (R.signature A) (R.spec A 𝓛 𝓜.mem 𝓡.returns) in
    let zR : R-triple.Ghost = ((κs, qs, bounds, (region, (place, (count, tt))), (vss.0, (vss.1.0, (vss.1.1.0, tt)))), tt) in
    let Q-ended : Ended = Q.ended A in
    let Q-triple = triple_of 𝓛 (Q.signature A) (Q.spec A 𝓛 𝓜.mem 𝓡.returns) in
    let zQ : Q-triple.Ghost = ((κs, qs, bounds, (region, tt), (vss.0, tt)), tt) in
    let May : Type 0 = IsTrue asked → HasRun region place count in
    qed 𝓛 (((‵ (flft κ q) ⊛ ‵ (flft κA qA) ⊛ ‵ ftrue) ⊛ ‵ (owns (types_at En.signature.params κs) a vss)) ∷ (raw (fact 𝓤 (κA ⊑ A.lives)) ⊛ raw (fact 𝓤 May)) ∷ []) ∵
    move ! (1 ∷ []) $ split ! $ heard ! (κA ⊑ A.lives) (λ inA. heard ! May (λ may.
    split ! $ move ! (1 ∷ []) $ fsplit3 ! $ move ! (2 ∷ []) $ fsplit3 ! $ keep ! (0 ∷ 4 ∷ 3 ∷ 5 ∷ []) $
    -- [how many; the place; the region; the tokens]
    enter ! _ _ _ _ _ $ alloc_all ! (λ l. pass_all ! refl ((gp.0, (gp.1, (record { fits = region.small }, (tt, tt)))), ((tt, record { fits = are.1.0.1 }), ((tt, record { fits = are.1.1.0.1 }), ((tt, tt), tt)))) $
    let Ev : Env 𝓤 H = env fn.locals l in
    sets ! (of_opd ! (get ! refl)) refl (tt, tt) $
    first ! $ branches ! (get ! refl)
    (λ on.
    let is_asked : IsTrue asked = is_on asked on in let Has : Type 0 = HasRun region place count in
    sets ! (of_opd ! (get ! refl)) refl (gp.0, (gp.1, (record { fits = region.small }, (tt, tt)))) $
    nothing ! $ move ! (1 ∷ 0 ∷ []) $ join ! $ move ! (1 ∷ 0 ∷ []) $ join ! $ move ! (1 ∷ 0 ∷ []) $ join ! $ move ! (1 ∷ 0 ∷ []) $ join ! $
    use0 𝓛 (raw (fact 𝓤 Has)) (fact_i 𝓤 Has (emp 𝓤) (may is_asked)) $ use0 𝓛 (raw (fact 𝓤 (κA ⊑ A.lives))) (fact_i 𝓤 (κA ⊑ A.lives) (emp 𝓤) inA) $ join ! $
    move ! (1 ∷ 0 ∷ []) $ join ! $ use1 𝓛 (raw (R-triple.pre zR)) (id⊢ 𝓤 _) $
    calls_at ! (framed 𝓤 H 𝓜 𝓣) R-triple (run_met 𝓤 𝓛 𝓜 𝓡 (code.calls-nd_region::divided_mutable_borrow::Region::into_run 𝓡.env wired) A lA) zR (and_then ! (get ! refl) (and_then ! (get ! refl) (and_then ! (get ! refl) (no_more !)))) (λ v.
    let Values : Lent.Denot → Type 0 = λ s. IsRunOf region place count s.now in
    use1 𝓛 (later (some (λ (s : Lent.Denot). ((‵ (flft κ q) ⊛ ‵ (flft κA qA) ⊛ ‵ ftrue) ⊛ ‵ (Lent.own_val s (v ∷ []))) ⊛
    some (λ (ws : Lasts R-ended κs (region, (place, (count, tt)))). ‵ (lasts R-ended κs (region, (place, (count, tt))) ws) ⊛ ‵ (follows (Array AR 0) (Array AR 0) region.name s.ghost_name (λ us. overwritten_items region.items (run_written region.items place count us))) ⊛ raw (fact 𝓤 (Values s)))))) (id⊢ 𝓤 _) $ await ! tt $ pick ! (λ s.
    split ! $ move ! (1 ∷ []) $ pick ! (λ ws. split ! $ drop ! $ split ! $ move ! (1 ∷ []) $ heard ! (Values s) (λ values.
    move ! (1 ∷ []) $ split ! $ move ! (1 ∷ []) $ peeks ! Lent (Is Lent) (shows 𝓛 Lent) s (v ∷ []) (λ typed.
    let good = ((mut_slice_Lawful 𝓛 (named 0) κ AR).typed s (v ∷ []) typed).0 in
    -- [the slice; the tokens; what the region's borrow follows]
    lands_as ! refl refl good $
    sets_last ! (agg ! (and_then ! (lit ! tt) (and_then ! (get ! refl) (no_more !)))) refl (both _ true good.0 tt, (record { fits = lit< tt }, (good.1, tt))) $
    exec ! 𝓣.C 𝓣.Λ Ev (after 2 fn.body) (at_ret Ev Post) $ sets ! (of_opd ! (get ! refl)) refl (both _ true good.0 tt, (record { fits = lit< tt }, (good.1, tt))) $
    use1 𝓛 (‵ (Out.own_val (Some s) (live 1 (of_list (v ∷ [])) ∷ []))) (Some-of 𝓛 Lent s v) $
    returns ! (look_at ! 0 refl) $ free_all ! refl $ keep ! (0 ∷ 1 ∷ 2 ∷ []) $
    suffices ! _ (ends_at 𝓛 En hs c y (live 1 (of_list (v ∷ []))) (Some s) (tt, (tt, (tt, (tt, tt)))) (tt, (tt, (tt, (tt, tt))))) $
    nothing ! $ nothing ! $ fjoin ! $ nothing ! $ fjoin ! $ nothing ! $ fjoin ! $ nothing ! $ fjoin ! $ join ! $ move ! (1 ∷ 0 ∷ []) $ join ! $ frame ! $
    says_two ! (((λ _. is_asked), λ _. refl), values) $ done !))))))
    (λ off.
    sets ! (of_opd ! (get ! refl)) refl (gp.0, (gp.1, (record { fits = region.small }, (tt, tt)))) $
    move ! (2 ∷ []) $ nothing ! $ move ! (1 ∷ 0 ∷ []) $ join ! $ move ! (3 ∷ 0 ∷ []) $ join ! $
    nothing ! $ use0 𝓛 (raw (fact 𝓤 (κA ⊑ A.lives))) (fact_i 𝓤 (κA ⊑ A.lives) (emp 𝓤) inA) $ join ! $ move ! (1 ∷ 0 ∷ []) $ join ! $ use1 𝓛 (raw (Q-triple.pre zQ)) (id⊢ 𝓤 _) $
    calls_at ! (framed 𝓤 H 𝓜 𝓣) Q-triple (end_met 𝓤 𝓛 𝓜 𝓡 (code.calls-nd_region::divided_mutable_borrow::Region::end 𝓡.env wired) A lA) zQ (and_then ! (get ! refl) (no_more !)) (λ v.
    use1 𝓛 (later (some (λ (u : Unit {0}). ((‵ (flft κ q) ⊛ ‵ (flft κA qA) ⊛ ‵ ftrue) ⊛ ‵ (unit.own_val u (v ∷ []))) ⊛
    some (λ (ws : Lasts Q-ended κs (region, tt)). ‵ (lasts Q-ended κs (region, tt) ws) ⊛ ‵ (keeps_elements AR region))))) (id⊢ 𝓤 _) $ await ! tt $ pick ! (λ u.
    split ! $ split ! $ move ! (1 ∷ []) $ feq_l ! (λ is_unit. move ! (1 ∷ []) $ pick ! (λ ws. split ! $ drop ! $
    -- [what the region's borrow ends as; the tokens]
    lands_as ! (ap only is_unit) refl (tt, tt) $
    sets_last ! (agg ! (and_then ! (lit ! tt) (no_more !))) refl (tt, (record { fits = lit< tt }, tt)) $
    exec ! 𝓣.C 𝓣.Λ Ev (after 2 fn.body) (at_ret Ev Post) $ sets ! (of_opd ! (get ! refl)) refl (tt, (record { fits = lit< tt }, tt)) $
    returns ! (look_at ! 0 refl) $ free_all ! refl $ keep ! (0 ∷ 1 ∷ []) $
    use0 𝓛 (‵ (Out.own_val None (live 0 (of_list []) ∷ []))) (none_of 𝓛 Lent) $
    suffices ! _ (ends_at 𝓛 En hs c y (live 0 (of_list [])) None (tt, (tt, (tt, (tt, tt)))) (tt, (tt, (tt, (tt, tt))))) $
    nothing ! $ nothing ! $ fjoin ! $ nothing ! $ fjoin ! $ nothing ! $ fjoin ! $ nothing ! $ fjoin ! $ join ! $ move ! (2 ∷ 0 ∷ []) $ join ! $ frame ! $
    says_two ! (none_asked asked off ((λ h. h), λ h. h), tt) $ done !)))))))))

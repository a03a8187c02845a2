-- `lent_named` lends the storage's elements while the array stays open, goes on with the named places alone, closes the array by what the
-- storage then ends as, and makes a storage of the region. Assumes `Logic`.
use Rattle.nd_region.proofs.SeparationLogicImports.{◌≡◌, refl, ap, ◌∙◌, Bool, ℕ, List, [], ◌∷◌, left, right, SProp, emp, id⊢, Lft, GName, Share, ftrue, flft, Args, Fn, a_type, dcons, dnil, named, inst_fn, Val, vptr, ◌⊑◌, Lfts, toks, fact, fact_i, tables, ‵, raw, ◌⊛◌, some, later, ◌$◌, ◌∵◌, !, qed, done, move, drop, keep, use0, use1, use2, use3, split, split3, join, fsplit, fsplit3, fjoin, feq_i, group, pick, await, rewrite, suffices, frame, enter, addr, stop, fld, no_more, and_then, returns, alloc_all, pass_all, free_all, look_at, get, through, sets, lands_as, Array, RefMutOf, RefOf, yes, no, follows, follows_then, Is, Lawfuls, shows, param, copied, bounded, param_laws, copied_laws, RattleType, owns, MutBor, mut_vals, mut_Tells, shr_vals, shr_Tells, plain, named_lft, types_at, nothing, heard, peeks, lawfuls, rows_of, calls_at, Ended, Lasts, lasts, Vals, triple_of, framed, says, Stays, stay_dropped, walk_of, ends_at, Goes-dropped, Goes-spent_ref}
use Rattle.std.specs.Prelude.{None, if◌then◌else◌}
use Rattle.std.proofs.raw_atomic.Walks.{proved}
use Rattle.std.proofs.mem.Param.{El}
use Rattle.nd_region.specs.RegionPlaces.{stored_in, written_where}
use Rattle.nd_region.specs.Region.{region_stored, IsPartWhere}
use Rattle.nd_region.proofs.RegionContentsForCallers.{part_stored}
use Rattle.nd_region.specs.contracts.divided_mutable_borrow.Region.{the_row as region_row}
use Rattle.nd_region.proofs.divided_mutable_borrow.Region.TheLaws.{the_row_laws as region_laws}
use Rattle.nd_elements.specs.contracts.storage.RegionRepr.{the_row as storage_row}
use Rattle.nd_elements.proofs.storage.RegionRepr.TheLaws.{the_row_laws as storage_laws}
use Rattle.nd_array_core.proofs.base.array.ArrayBase.TheLaws.{the_loose}
use Rattle.nd_array_core.specs.layout.ArrayAfterMutableView.{array_with_part}
use Rattle.nd_array_core.proofs.lending.RefilledPart.{items_here, items_again}
use Rattle.nd_array_core.proofs.lending.LendField as field
use Rattle.nd_array_core.proofs.lending.LendStorage as lent_in
use Rattle.nd_array_core.proofs.lending.BorrowNarrowedToPart.{RegionNarrowed, narrows_region}
use Rattle.nd_elements.specs.contracts.storage.DataMut.lend as L
use Rattle.nd_elements.specs.contracts.storage.ViewMutRepr+A.of_region as O
use Rattle.nd_elements.proofs.storage.ViewMutRepr+A.of_region.Met.{met as of_met}
use Rattle.nd_array_core.specs.contracts.layout.views.ArrayBase+S+D.lent_named as F
use Rattle.nd_array_core.specs.contracts.layout.views.ArrayBase+S+D.lent_named.Key.{name as #self}
use Rattle.nd_array_core.proofs.layout.views.ArrayBase+S+D.lent_named.Statement.{statement}
use Rattle.nd_array_core.proofs.layout.views.ArrayBase+S+D.lent_named.Code as code

pub lent_named_spec : {M : Type 1} → statement M
lent_named_spec 𝓤 𝓛 𝓜 𝓡 wired S D E T N lS lD lE lT lN cD cT sm smd sd sdd d dd n nd k kd t td j jd w wd mS msd md mn mk mt mj mw =
    let H = 𝓛.H in let 𝓣 = tables 𝓤 H 𝓜 𝓡 𝓡.env in
    let inst : Args = bounded (a_type ∷ a_type ∷ a_type ∷ a_type ∷ a_type ∷ []) (S, (D, (E, (T, (N, tt))))) (dcons smd (dcons sdd (dcons dd (dcons nd (dcons kd (dcons td (dcons jd (dcons wd dnil)))))))) in
    let fn : Fn = inst_fn inst code.function in
    let En : Ended = F.ended S D E T N sm smd sd sdd d dd n nd k kd t td j jd w wd in
    let c = F.clauses S D E T N sm smd sd sdd d dd n nd k kd t td j jd w wd 𝓛 𝓜.mem 𝓡.returns in
    let SR : RattleType = param 0 S in let DR : RattleType = copied 1 D in let ER : RattleType = param 2 E in
    let TR : RattleType = copied 3 T in let NR : RattleType = param 4 N in
    let Row : RattleType = lent_in.Row S D T E sd d n t in
    let hs : Stays En.signature.params En.kept = (
      stay_dropped (RefMutOf (0 ∷ []) tt (plain (λ _. Row)) (λ _. tt)) no,
      (stay_dropped (RefOf (1 ∷ []) tt (plain (λ _. NR)) (λ _. tt)) yes, tt),
    ) in
    let lawful : Lawfuls 𝓛 (rows_of (lent_in.members S D T E sd d n t)) = lawfuls 𝓛 (lent_in.Whole S D T E sd d n t).parts
    (the_loose SR DR TR ER TR sd d n t t (param_laws 0 S lS) (copied_laws 1 D lD) (copied_laws 3 T lT) (param_laws 2 E lE) (copied_laws 3 T lT)) in
    proved 𝓛 En hs c 𝓜 𝓡 (
      Goes-spent_ref 𝓛 7 (0 ∷ []) tt (plain (λ _. Row)),
      (Goes-dropped 𝓛 7 (RefOf (1 ∷ []) tt (plain (λ _. NR)) (λ _. tt)) yes (λ κs x f. refl), tt),
    ) (#self inst) fn (code.unfolded 𝓤 H 𝓜 𝓡 wired (S, (D, (E, (T, (N, tt))))) smd sdd dd nd kd td jd wd)
    (λ κs. (mut_vals, (shr_vals, tt)))
    (λ κs. (mut_Tells (named 0) κs.0 Row, (shr_Tells (named 1) κs.1.0 NR, tt))) (λ κs qs bounds a gh are.
    let κ : Lft = κs.0 in let κl : Lft = κs.1.0 in let κS : Lft = κs.1.1.0 in let κD : Lft = κs.1.1.1.0 in let κE : Lft = κs.1.1.1.1.0 in
    let q : Share = qs.0 in let ql : Share = qs.1.0 in let qS : Share = qs.1.1.0 in let qD : Share = qs.1.1.1.0 in let qE : Share = qs.1.1.1.1.0 in
    let lq : Share = left q in let rq : Share = right q in
    let others : SProp 𝓤 = toks 𝓛 2 κs.1.1.1.1.1 qs.1.1.1.1.1 in
    let vss : Vals En.signature κs = (mut_vals a.0, (shr_vals a.1.0, tt)) in
    let y : (walk_of 𝓛 En hs c).Ghost = ((κs, qs, bounds, a, vss), gh) in
    let old : Row.Denot = a.0.now in let γ : GName = a.0.ghost_name in let rb : ℕ = a.0.ref_ptr.0 in let ro : ℕ = a.0.ref_ptr.1 in
    let test : ℕ → Bool = w.named a.1.0.now in
    let at : ℕ = lent_in.storage_at S D T E sd d n t 𝓛 rb ro in
    let Rest : SProp 𝓤 = lent_in.Outside S D T E sd d n t 𝓛 rb ro old in
    let xs : List E.Denot = sd.items old.storage in
    let with : List E.Denot → Row.Denot = array_with_part sd.refilled sd.items old test in
    let ends : Row.Denot → Row.Denot = λ w. with (sd.items w.storage) in
    let filled : List E.Denot → S.Denot = λ us. (sd.refilled old.storage us).0 in
    let part_filled : List E.Denot → S.Denot = λ us. filled (written_where test xs us) in
    let L-ended : Ended = L.ended S E sm smd sd sdd in
    let L-triple = triple_of 𝓛 (L.signature S E) (L.spec S E sm smd sd sdd 𝓛 𝓜.mem 𝓡.returns) in
    let κs₁ : Lfts 3 = (κ, (κS, (κE, tt))) in let κs₂ : Lfts 2 = (κ, (κE, tt)) in
    let Rg : RattleType = region_row (named_lft 3 0 tt κs₁) ER in
    let Storage : RattleType = storage_row (region_row (named_lft 7 0 tt κs) ER) in
    let O-ended : Ended = O.ended E in
    let O-triple = triple_of 𝓛 (O.signature E) (O.spec E 𝓛 𝓜.mem 𝓡.returns) in
    let El-E : El = record { row = E; laws = lE } in
    qed 𝓛 (((‵ (flft κ q) ⊛ ‵ (flft κl ql) ⊛ (‵ (flft κS qS) ⊛ ‵ (flft κD qD) ⊛ (‵ (flft κE qE) ⊛ raw others))) ⊛ ‵ (owns (types_at En.signature.params κs) a vss))
    ∷ (raw (fact 𝓤 (κS ⊑ S.lives)) ⊛ raw (fact 𝓤 (κD ⊑ D.lives)) ⊛ raw (fact 𝓤 (κE ⊑ E.lives)) ⊛ raw (fact 𝓤 (κs.1.1.1.1.1.0 ⊑ T.lives)) ⊛ raw (fact 𝓤 (κs.1.1.1.1.1.1.0 ⊑ N.lives)) ⊛ raw (emp 𝓤)) ∷ []) ∵
    move ! (1 ∷ []) $ split ! $ heard ! (κS ⊑ S.lives) (λ inS. split ! $ drop ! $ split ! $ heard ! (κE ⊑ E.lives) (λ inE. drop ! $
    split ! $ split3 ! $ move ! (2 ∷ []) $ split3 ! $ move ! (2 ∷ []) $ split ! $ move ! (6 ∷ []) $ fsplit ! $ fsplit3 ! $
    keep ! (1 ∷ 2 ∷ 8 ∷ 6 ∷ 4 ∷ 7 ∷ 5 ∷ 9 ∷ []) $
    -- [obs; the borrow; its token; S's; E's; D's; the others; the other reference's]
    enter ! _ _ _ _ _ $ alloc_all ! (λ l. pass_all ! refl ((tt, tt), ((tt, tt), tt)) $
    sets ! (addr ! (through ! refl (fld ! refl (stop !)))) refl (tt, tt) $
    move ! (2 ∷ []) $ use1 𝓛 (‵ (flft κ lq) ⊛ ‵ (flft κ rq)) (𝓛.lfts.lft_split κ q) $ split ! $ move ! (2 ∷ 3 ∷ 0 ∷ []) $
    use3 𝓛 (later (some (field.Lent Row SR 𝓛 ends κ rb ro rb at γ old old.storage Rest lq)))
    (field.lends_field Row SR 𝓛 ends κ rb ro rb at γ old old.storage Rest (items_here sd.refilled sd.items old test mS.refilled_itself) (lent_in.storage_out S D T E sd d n t 𝓛 rb ro lawful old) lq) $ await ! tt $ pick ! (λ z.
    let γ' : GName = z.0 in let δ : GName = z.1 in let m : ℕ = z.2 in
    let s : MutBor S.Denot = record { ref_ptr = (rb, at); ghost_name = δ; now = old.storage } in
    let zL : L-triple.Ghost = ((κs₁, (rq, (qS, (qE, tt))), (bounds.0, (bounds.1.1.1.1.0, tt)), (s, tt), (mut_vals s, tt)), tt) in
    let z₂ : Rg.Denot → Val → O-triple.Ghost = λ x v. ((κs₂, (q, (qE, tt)), (bounds.1.1.1.1.0, tt), (x, tt), (v ∷ [], tt)), tt) in
    split3 ! $ move ! (2 ∷ []) $ split3 ! $ move ! (2 ∷ []) $ split3 ! $ move ! (2 ∷ []) $ split ! $
    -- [what lies outside; what the array follows; auth; the right; the open array; its obs; the storage's obs; its borrow; the token's other half; S's; E's; D's; the others]
    move ! (6 ∷ 7 ∷ []) $ fjoin ! $ feq_i ! (List Val) (mut_vals s) (vptr rb at ∷ []) refl $ fjoin ! $
    nothing ! $ move ! (1 ∷ 0 ∷ []) $ join ! $ nothing ! $ move ! (10 ∷ 0 ∷ []) $ join ! $ move ! (9 ∷ 0 ∷ []) $ join ! $ move ! (8 ∷ 0 ∷ []) $ join ! $ join ! $
    nothing ! $ use0 𝓛 (raw (fact 𝓤 (κE ⊑ E.lives))) (fact_i 𝓤 (κE ⊑ E.lives) (emp 𝓤) inE) $ join ! $ use0 𝓛 (raw (fact 𝓤 (κS ⊑ S.lives))) (fact_i 𝓤 (κS ⊑ S.lives) (emp 𝓤) inS) $ join ! $
    move ! (1 ∷ 0 ∷ []) $ join ! $ use1 𝓛 (raw (L-triple.pre zL)) (id⊢ 𝓤 _) $
    calls_at ! (framed 𝓤 H 𝓜 𝓣) L-triple mS.lend zL (and_then ! (get ! refl) (no_more !)) (λ v.
    let Holds : Rg.Denot → Type 0 = λ x. (p : ℕ) → region_stored x p ≡ sd.stored old.storage p in
    use1 𝓛 (later (some (λ (x : Rg.Denot). ((‵ (flft κ rq) ⊛ ‵ (flft κS qS) ⊛ ‵ (flft κE qE) ⊛ ‵ ftrue) ⊛ ‵ (Rg.own_val x (v ∷ []))) ⊛
    some (λ (us : Lasts L-ended κs₁ (s, tt)). ‵ (lasts L-ended κs₁ (s, tt) us) ⊛ ‵ (follows SR (Array ER 0) δ x.name filled) ⊛ raw (fact 𝓤 (Holds x)) ⊛ raw (fact 𝓤 (x.items ≡ xs)))))) (id⊢ 𝓤 _) $ await ! tt $ pick ! (λ x.
    split ! $ move ! (1 ∷ []) $ pick ! (λ us. split ! $ drop ! $ split ! $ move ! (1 ∷ []) $ split ! $ heard ! (Holds x) (λ holds. heard ! (x.items ≡ xs) (λ same.
    -- [what the storage follows; the tokens and the region; what lies outside; what the array follows; auth; the right; the open array; its obs; D's; the others; the other reference's]
    move ! (1 ∷ []) $ split ! $ split3 ! $ move ! (2 ∷ []) $ split ! $
    -- [E's; nothing; the token's half; S's; the region; what the storage follows; ..]
    move ! (4 ∷ []) $ peeks ! Rg (Is Rg) (shows 𝓛 Rg) x (v ∷ []) (λ typed.
    lands_as ! refl refl (((region_laws (named_lft 3 0 tt κs₁) ER (param_laws 2 E lE)).lawful 𝓛).typed x (v ∷ []) typed).0 $
    move ! (0 ∷ 3 ∷ []) $ use2 𝓛 (later (some (RegionNarrowed (named_lft 3 0 tt κs₁) El-E 𝓛 test rq x v))) (narrows_region (named_lft 3 0 tt κs₁) El-E 𝓛 test rq x v) $ await ! tt $ pick ! (λ x₁.
    split3 ! $ move ! (2 ∷ []) $ split ! $ move ! (1 ∷ []) $ heard ! (IsPartWhere test x x₁) (λ part.
    -- [what the region's borrow follows; the region; the token's half; E's; nothing; S's; what the storage follows; what lies outside; what the array follows; auth; the right; the open array; its obs; D's; the others; the other reference's]
    rewrite ! 0 (λ (zs : List E.Denot). ‵ (follows (Array ER 0) (Array ER 0) x.name x₁.name (written_where test zs))) same refl $
    move ! (6 ∷ 0 ∷ []) $ use2 𝓛 (‵ (follows SR (Array ER 0) δ x₁.name part_filled)) (follows_then 𝓛 SR (Array ER 0) (Array ER 0) filled (written_where test xs) δ x.name x₁.name) $
    move ! (10 ∷ 11 ∷ 8 ∷ 9 ∷ 0 ∷ 6 ∷ []) $ group ! 6 $
    use1 𝓛 (later (‵ (flft κ lq))) (field.closes_field Row SR 𝓛 ends κ rb ro rb at (Array ER 0) part_filled with Rest (λ ws. items_again sd.refilled sd.items old test ws mS.refilled_items)
    (lent_in.storage_back S D T E sd d n t 𝓛 rb ro old test) lq γ' δ x₁.name m (Row.coded.code old) (Row.coded.code old)) $ await ! tt $
    -- [half the token; the region; the other half; E's; nothing; S's; what the array follows; D's; the others; the other reference's]
    move ! (0 ∷ 2 ∷ []) $ use2 𝓛 (‵ (flft κ q)) (𝓛.lfts.lft_join κ q) $
    move ! (1 ∷ []) $ nothing ! $ move ! (1 ∷ 0 ∷ []) $ join ! $ nothing ! $ move ! (3 ∷ 0 ∷ []) $ join ! $ move ! (2 ∷ 0 ∷ []) $ join ! $ join ! $
    nothing ! $ use0 𝓛 (raw (fact 𝓤 (κE ⊑ E.lives))) (fact_i 𝓤 (κE ⊑ E.lives) (emp 𝓤) inE) $ join ! $ move ! (1 ∷ 0 ∷ []) $ join ! $
    use1 𝓛 (raw (O-triple.pre (z₂ x₁ v))) (id⊢ 𝓤 _) $
    calls_at ! (framed 𝓤 H 𝓜 𝓣) O-triple (of_met 𝓤 𝓛 𝓜 𝓡 (code.calls-nd_elements::storage::ViewMutRepr+A::of_region 𝓡.env wired) E lE) (z₂ x₁ v) (and_then ! (get ! refl) (no_more !)) (λ v'.
    use1 𝓛 (later (some (λ (r : Storage.Denot). ((‵ (flft κ q) ⊛ ‵ (flft κE qE) ⊛ ‵ ftrue) ⊛ ‵ (Storage.own_val r (v' ∷ []))) ⊛
    some (λ (ws : Lasts O-ended κs₂ (x₁, tt)). ‵ (lasts O-ended κs₂ (x₁, tt) ws) ⊛ raw (fact 𝓤 (r.region ≡ x₁)))))) (id⊢ 𝓤 _) $ await ! tt $ pick ! (λ r.
    split ! $ move ! (1 ∷ []) $ pick ! (λ ws. split ! $ drop ! $ heard ! (r.region ≡ x₁) (λ is.
    split ! $ move ! (1 ∷ []) $ peeks ! Storage (Is Storage) (shows 𝓛 Storage) r (v' ∷ []) (λ typed'.
    let good = (storage_laws (region_row (named_lft 7 0 tt κs) ER) (region_laws (named_lft 7 0 tt κs) ER (param_laws 2 E lE))).lawful 𝓛 in
    lands_as ! refl refl (good.typed r (v' ∷ []) typed').0 $
    let out : Storage.Denot = record { region = r.region; tie = record { marker = r.tie.marker; value = γ' } } in
    use1 𝓛 (‵ (Storage.own_val out (v' ∷ []))) (id⊢ 𝓤 _) $
    returns ! (look_at ! 0 refl) $ free_all ! refl $
    suffices ! _ (ends_at 𝓛 En hs c y v' out (tt, (tt, tt)) (tt, (tt, tt))) $
    -- [the storage; the tokens; nothing; S's; what follows; D's; the others; the other reference's]
    move ! (1 ∷ []) $ split3 ! $ move ! (1 ∷ 8 ∷ []) $ join ! $ move ! (7 ∷ 0 ∷ []) $ join ! $ move ! (5 ∷ 0 ∷ []) $ join ! $ move ! (6 ∷ 0 ∷ []) $ join ! $ move ! (1 ∷ 0 ∷ []) $ join ! $ keep ! (0 ∷ 2 ∷ 4 ∷ []) $
    nothing ! $ nothing ! $ fjoin ! $ nothing ! $ fjoin ! $ move ! (0 ∷ 2 ∷ []) $ join ! $ move ! (1 ∷ 0 ∷ []) $ join ! $ frame ! $
    says ! (λ p. ap (λ g. region_stored g p) is ∙ (λ i. stored_in (part.0 i) (part.1 i) p) ∙ part_stored test x.items x.held p ∙ ap (λ o. if test p then o else None) (holds p)) $ done !))))))))))))))))))

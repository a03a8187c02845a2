-- `as_slice_mut` asks first. It hands out what `elements_mut` lends, or ends the borrow with the array as it is. Assumes `Logic`.
use Rattle.nd_region.proofs.SeparationLogicImports.{◌≡◌, refl, sym, ap, subst, ◌∙◌, true, List, [], ◌∷◌, ◌++◌, lit<, SProp, emp, id⊢, Lft, GName, Share, ftrue, flft, fres, Args, Fn, a_type, dcons, dnil, named, inst_fn, Val, vstruct, of_list, Env, ◌⊑◌, toks, fact, fact_i, tables, live, ‵, raw, ◌⊛◌, some, later, at_ret, ◌$◌, ◌∵◌, !, qed, done, move, keep, drop, use0, use1, split, join, fsplit, fsplit3, fjoin, fpick, feq_l, pick, await, rewrite, suffices, frame, whole, sub, agg, enter, addr, lit, stop, fld, no_more, and_then, of_opd, first, branches, exec, returns, alloc_all, pass_all, free_all, look_at, get, get_in, through, sets, sets_last, lands_as, env, Array, RefMutOf, bool, no, follows, follows_by, Is, shows, param, copied, bounded, RattleType, owns, MutRef, mut_vals, mut_Tells, MutSlice, mut_slice_Lawful, plain, types_at, nothing, heard, only, peeks, Tuple, calls_at, Ended, Lasts, lasts, Vals, triple_of, framed, Stays, stay_dropped, walk_of, ends_at, Goes-spent_ref}
use Rattle.std.specs.Prelude.{Some, None, IsTrue, ◌↔◌}
use Rattle.std.specs.contracts.option.Option as OP
use Rattle.std.proofs.VecSteps.Shapes.{after}
use Rattle.std.proofs.VecSteps.Element.{Some-of, none_of}
use Rattle.std.proofs.mem.Facts.{says_three}
use Rattle.std.proofs.raw_atomic.Walks.{proved}
use Rattle.nd_array_core.specs.ArrayMeaning.{meaning_of}
use Rattle.nd_elements.specs.ShapeAndElements.{row_major_elements}
use Rattle.nd_array_core.specs.reshape.ElementsAsSlice.{IsStandardArray}
use Rattle.nd_array_core.specs.reshape.ArrayAfterSliceBorrow.{array_with_rows, LeavesByRank}
use Rattle.nd_array_core.specs.contracts.base.array.ArrayBase.{the_row as array_row}
use Rattle.nd_array_core.proofs.lending.BoolAndOptionFacts.{is_on, none_asked, both}
use Rattle.nd_array_core.specs.contracts.reshape.elements_as_slice_mut.ArrayBase+S+D.asked_rows as K
use Rattle.nd_array_core.proofs.reshape.elements_as_slice_mut.ArrayBase+S+D.asked_rows.Met.{met as asked_met}
use Rattle.nd_array_core.specs.contracts.reshape.elements_as_slice_mut.ArrayBase+S+D.elements_mut as O
use Rattle.nd_array_core.proofs.reshape.elements_as_slice_mut.ArrayBase+S+D.elements_mut.Met.{met as lent_met}
use Rattle.nd_array_core.specs.contracts.reshape.elements_as_slice_mut.ArrayBase+S+D.as_slice_mut as F
use Rattle.nd_array_core.specs.contracts.reshape.elements_as_slice_mut.ArrayBase+S+D.as_slice_mut.Key.{name as #self}
use Rattle.nd_array_core.proofs.reshape.elements_as_slice_mut.ArrayBase+S+D.as_slice_mut.Statement.{statement}
use Rattle.nd_array_core.proofs.reshape.elements_as_slice_mut.ArrayBase+S+D.as_slice_mut.Code as code

pub as_slice_mut_spec : {M : Type 1} → statement M
unfolding follows_by
as_slice_mut_spec 𝓤 𝓛 𝓜 𝓡 wired S D E X lS lD lE lX cD cX sm smd sd sdd d dd n nd k kd t td j jd mS msd md mn mk mt mj =
    let H = 𝓛.H in let 𝓣 = tables 𝓤 H 𝓜 𝓡 𝓡.env in
    let inst : Args = bounded (a_type ∷ a_type ∷ a_type ∷ a_type ∷ []) (S, (D, (E, (X, tt)))) (dcons smd (dcons sdd (dcons dd (dcons nd (dcons kd (dcons td (dcons jd dnil))))))) in
    let fn : Fn = inst_fn inst code.function in
    let En : Ended = F.ended S D E X sm smd sd sdd d dd n nd k kd t td j jd in
    let c = F.clauses S D E X sm smd sd sdd d dd n nd k kd t td j jd 𝓛 𝓜.mem 𝓡.returns in
    let ER : RattleType = param 2 E in
    let Row : RattleType = array_row (param 0 S) (copied 1 D) (copied 3 X) ER (copied 3 X) sd d n t t in
    let hs : Stays En.signature.params En.kept = (stay_dropped (RefMutOf (0 ∷ []) tt (plain (λ _. Row)) (λ _. tt)) no, tt) in
    proved 𝓛 En hs c 𝓜 𝓡 (Goes-spent_ref 𝓛 5 (0 ∷ []) tt (plain (λ _. Row)), tt) (#self inst) fn (code.unfolded 𝓤 H 𝓜 𝓡 wired (S, (D, (E, (X, tt)))) smd sdd dd nd kd td jd)
    (λ κs. (mut_vals, tt)) (λ κs. (mut_Tells (named 0) κs.0 Row, tt)) (λ κs qs bounds a gh are.
    let κ : Lft = κs.0 in let q : Share = qs.0 in let others : SProp 𝓤 = toks 𝓛 4 κs.1 qs.1 in
    let inS : Type 0 = κs.1.0 ⊑ S.lives in let inD : Type 0 = κs.1.1.0 ⊑ D.lives in let inE : Type 0 = κs.1.1.1.0 ⊑ E.lives in
    let inX : Type 0 = κs.1.1.1.1.0 ⊑ X.lives in
    let vss : Vals En.signature κs = (mut_vals a.0, tt) in
    let y : (walk_of 𝓛 En hs c).Ghost = ((κs, qs, bounds, a, vss), gh) in
    let Post = (walk_of 𝓛 En hs c).post y in
    let old : Row.Denot = a.0.now in
    let with : List E.Denot → Row.Denot = array_with_rows sd.with_run old in
    let Mr : RattleType = MutRef (named 0) κ Row in
    let Two : RattleType = Tuple (Mr ∷ bool ∷ []) in
    let Lent : RattleType = MutSlice (named 0) κ ER in
    let Out : RattleType = OP.the_row Lent in
    let K-ended : Ended = K.ended S D E X sm smd sd sdd d dd n nd k kd t td j jd in
    let K-triple = triple_of 𝓛 (K.signature S D E X sm smd sd sdd d dd n nd k kd t td j jd) (K.spec S D E X sm smd sd sdd d dd n nd k kd t td j jd 𝓛 𝓜.mem 𝓡.returns) in
    let zK : K-triple.Ghost = ((κs, qs, (bounds.0, (bounds.1.0, (bounds.1.1.0, tt))), a, vss), tt) in
    let O-ended : Ended = O.ended S D E X sm smd sd sdd d dd n nd k kd t td j jd in
    let O-triple = triple_of 𝓛 (O.signature S D E X sm smd sd sdd d dd n nd k kd t td j jd) (O.spec S D E X sm smd sd sdd d dd n nd k kd t td j jd 𝓛 𝓜.mem 𝓡.returns) in
    qed 𝓛 (((‵ (flft κ q) ⊛ raw others) ⊛ ‵ (owns (types_at En.signature.params κs) a vss))
    ∷ (raw (fact 𝓤 inS) ⊛ raw (fact 𝓤 inD) ⊛ raw (fact 𝓤 inE) ⊛ raw (fact 𝓤 inX) ⊛ ‵ ftrue) ∷ []) ∵
    move ! (1 ∷ []) $ split ! $ heard ! inS (λ hS. split ! $ heard ! inD (λ hD. split ! $ heard ! inE (λ hE. split ! $ heard ! inX (λ hX. drop ! $
    enter ! _ _ _ _ _ $ alloc_all ! (λ l. pass_all ! refl ((tt, tt), tt) $
    let Ev : Env 𝓤 H = env fn.locals l in
    sets ! (addr ! (through ! refl (stop !))) refl (tt, tt) $
    nothing ! $ use0 𝓛 (raw (fact 𝓤 inX)) (fact_i 𝓤 inX (emp 𝓤) hX) $ join ! $ use0 𝓛 (raw (fact 𝓤 inE)) (fact_i 𝓤 inE (emp 𝓤) hE) $ join ! $ use0 𝓛 (raw (fact 𝓤 inD)) (fact_i 𝓤 inD (emp 𝓤) hD) $ join ! $ use0 𝓛 (raw (fact 𝓤 inS)) (fact_i 𝓤 inS (emp 𝓤) hS) $ join ! $
    move ! (1 ∷ 0 ∷ []) $ join ! $ use1 𝓛 (raw (K-triple.pre zK)) (id⊢ 𝓤 _) $
    calls_at ! (framed 𝓤 H 𝓜 𝓣) K-triple (asked_met 𝓤 𝓛 𝓜 𝓡 (code.calls-nd_array_core::reshape::elements_as_slice_mut::ArrayBase+S+D::asked_rows 𝓡.env wired) S D E X lS lD lE lX cD cX sm smd sd sdd d dd n nd k kd t td j jd mS msd md mn mk mt mj) zK (and_then ! (get ! refl) (no_more !)) (λ got.
    let SameRef : Two.Denot → Type 0 = λ r. r.0.ghost_name ≡ a.0.ghost_name in
    let Same : Two.Denot → Type 0 = λ r. r.0.now ≡ old in
    let Asked : Two.Denot → Type 0 = λ r. IsTrue r.1 ↔ IsStandardArray old in
    use1 𝓛 (later (some (λ (r : Two.Denot). ((‵ (flft κ q) ⊛ raw others) ⊛ ‵ (Two.own_val r (got ∷ []))) ⊛
    some (λ (us : Lasts K-ended κs a). ‵ (lasts K-ended κs a us) ⊛ raw (fact 𝓤 (SameRef r)) ⊛ raw (fact 𝓤 (Same r)) ⊛ raw (fact 𝓤 (Asked r)))))) (id⊢ 𝓤 _) $ await ! tt $ pick ! (λ r.
    split ! $ move ! (1 ∷ []) $ pick ! (λ us. split ! $ drop ! $ split ! $ heard ! (SameRef r) (λ same_ref. split ! $ heard ! (Same r) (λ same. heard ! (Asked r) (λ asks.
    split ! $ split ! $ move ! (2 ∷ []) $ fpick ! (λ uss. fsplit ! $ feq_l ! (λ e. fsplit3 ! $
    peeks ! Mr (Is Mr) (shows 𝓛 Mr) r.0 uss.0 (λ is. let e₀ = mut_Tells (named 0) κ Row r.0 uss.0 is in rewrite ! 0 (λ (vs : List Val). ‵ (Mr.own_val r.0 vs)) e₀ refl $
    move ! (1 ∷ []) $ peeks ! bool (Is bool) (shows 𝓛 bool) r.1 uss.1.0 (λ is'. rewrite ! 0 (λ (vs : List Val). ‵ (bool.own_val r.1 vs)) is' refl $ drop ! $
    -- [the array; nothing; the borrow's token; the others]
    lands_as ! (ap only e ∙ (λ i. vstruct (of_list (e₀ i ++ (is' i ++ []))))) refl (tt, (tt, (tt, tt))) $
    sets ! (of_opd ! (get_in ! (fld ! refl (stop !)) (sub ! 0 refl (whole !)))) refl (tt, tt) $
    sets ! (of_opd ! (get_in ! (fld ! refl (stop !)) (sub ! 1 refl (whole !)))) refl (tt, tt) $
    sets ! (of_opd ! (get ! refl)) refl (tt, tt) $
    first ! $ branches ! (get ! refl)
    (λ yes.
    let here : IsStandardArray old = asks.0 (is_on r.1 yes) in let Fits : Type 0 = IsStandardArray r.0.now in
    let zO : O-triple.Ghost = ((κs, qs, bounds, (r.0, tt), (mut_vals r.0, tt)), tt) in
    sets ! (addr ! (through ! refl (stop !))) refl (tt, tt) $
    nothing ! $ move ! (1 ∷ 0 ∷ []) $ join ! $ move ! (3 ∷ []) $ move ! (3 ∷ 0 ∷ []) $ join ! $ join ! $
    use0 𝓛 (raw (fact 𝓤 Fits)) (fact_i 𝓤 Fits (emp 𝓤) (subst (λ (b : Row.Denot). IsStandardArray b) (sym same) here)) $ use0 𝓛 (raw (fact 𝓤 inX)) (fact_i 𝓤 inX (emp 𝓤) hX) $ join ! $ use0 𝓛 (raw (fact 𝓤 inE)) (fact_i 𝓤 inE (emp 𝓤) hE) $ join ! $ use0 𝓛 (raw (fact 𝓤 inD)) (fact_i 𝓤 inD (emp 𝓤) hD) $ join ! $ use0 𝓛 (raw (fact 𝓤 inS)) (fact_i 𝓤 inS (emp 𝓤) hS) $ join ! $
    move ! (1 ∷ 0 ∷ []) $ join ! $ use1 𝓛 (raw (O-triple.pre zO)) (id⊢ 𝓤 _) $
    calls_at ! (framed 𝓤 H 𝓜 𝓣) O-triple (lent_met 𝓤 𝓛 𝓜 𝓡 (code.calls-nd_array_core::reshape::elements_as_slice_mut::ArrayBase+S+D::elements_mut 𝓡.env wired) S D E X lS lD lE lX cD cX sm smd sd sdd d dd n nd k kd t td j jd mS msd md mn mk mt mj) zO (and_then ! (get ! refl) (no_more !)) (λ v.
    let IsShownSlice : Row.Denot → List E.Denot → Type 0 = λ b xs. xs ≡ row_major_elements (meaning_of b) in
    let Leaves : Row.Denot → Type 0 = λ b. LeavesByRank sm.frame b (array_with_rows sd.with_run b) in
    use1 𝓛 (later (some (λ (s : Lent.Denot). ((‵ (flft κ q) ⊛ raw others) ⊛ ‵ (Lent.own_val s (v ∷ []))) ⊛
    some (λ (ws : Lasts O-ended κs (r.0, tt)). ‵ (lasts O-ended κs (r.0, tt) ws) ⊛ ‵ (follows Row (Array ER 0) r.0.ghost_name s.ghost_name (array_with_rows sd.with_run r.0.now)) ⊛ raw (fact 𝓤 (IsShownSlice r.0.now s.now)) ⊛ raw (fact 𝓤 (Leaves r.0.now)))))) (id⊢ 𝓤 _) $ await ! tt $ pick ! (λ s.
    split ! $ move ! (1 ∷ []) $ pick ! (λ ws. split ! $ drop ! $ split ! $ move ! (1 ∷ []) $ split ! $ heard ! (IsShownSlice r.0.now s.now) (λ shown. heard ! (Leaves r.0.now) (λ leaves.
    rewrite ! 0 (λ (g : GName). ‵ (follows Row (Array ER 0) g s.ghost_name (array_with_rows sd.with_run r.0.now))) same_ref refl $
    rewrite ! 0 (λ (b : Row.Denot). ‵ (follows Row (Array ER 0) a.0.ghost_name s.ghost_name (array_with_rows sd.with_run b))) same refl $
    move ! (1 ∷ []) $ split ! $ move ! (1 ∷ []) $ peeks ! Lent (Is Lent) (shows 𝓛 Lent) s (v ∷ []) (λ typed.
    let good = ((mut_slice_Lawful 𝓛 (named 0) κ ER).typed s (v ∷ []) typed).0 in
    -- [the slice; the tokens; what the array follows]
    lands_as ! refl refl good $
    sets_last ! (agg ! (and_then ! (lit ! tt) (and_then ! (get ! refl) (no_more !)))) refl (both _ true good.0 tt, (record { fits = lit< tt }, (good.1, tt))) $
    exec ! 𝓣.C 𝓣.Λ Ev (after 6 fn.body) (at_ret Ev Post) $ sets ! (of_opd ! (get ! refl)) refl (both _ true good.0 tt, (record { fits = lit< tt }, (good.1, tt))) $
    use1 𝓛 (‵ (Out.own_val (Some s) (live 1 (of_list (v ∷ [])) ∷ []))) (Some-of 𝓛 Lent s v) $
    returns ! (look_at ! 0 refl) $ free_all ! refl $ keep ! (0 ∷ 1 ∷ 2 ∷ []) $
    suffices ! _ (ends_at 𝓛 En hs c y (live 1 (of_list (v ∷ []))) (Some s) (tt, tt) (tt, tt)) $
    nothing ! $ nothing ! $ fjoin ! $ join ! $ move ! (1 ∷ 0 ∷ []) $ join ! $ frame ! $
    says_three ! (((λ _. here), λ _. refl), subst (λ b. IsShownSlice b s.now) same shown, subst Leaves same leaves) $ done !)))))))
    (λ other.
    sets_last ! (agg ! (and_then ! (lit ! tt) (no_more !))) refl (tt, (record { fits = lit< tt }, tt)) $
    exec ! 𝓣.C 𝓣.Λ Ev (after 6 fn.body) (at_ret Ev Post) $ sets ! (of_opd ! (get ! refl)) refl (tt, (record { fits = lit< tt }, tt)) $
    fsplit3 ! $ drop ! $ use1 𝓛 (‵ (fres r.0.ghost_name (Row.coded.code r.0.now))) (𝓛.names.obs-res r.0.ghost_name (Row.coded.code r.0.now)) $
    rewrite ! 0 (λ (g : GName). ‵ (fres g (Row.coded.code r.0.now))) same_ref refl $ rewrite ! 0 (λ (b : Row.Denot). ‵ (fres a.0.ghost_name (Row.coded.code b))) same refl $
    -- [what the array ends as; its borrow; nothing; the tokens]
    returns ! (look_at ! 0 refl) $ free_all ! refl $ keep ! (0 ∷ 3 ∷ 4 ∷ []) $
    use0 𝓛 (‵ (Out.own_val None (live 0 (of_list []) ∷ []))) (none_of 𝓛 Lent) $
    suffices ! _ (ends_at 𝓛 En hs c y (live 0 (of_list [])) None (tt, tt) (tt, tt)) $
    nothing ! $ nothing ! $ fjoin ! $ join ! $ move ! (3 ∷ []) $ move ! (3 ∷ 0 ∷ []) $ join ! $ join ! $ frame ! $
    says_three ! (none_asked r.1 other asks, tt, tt) $ done !)))))))))))))))))

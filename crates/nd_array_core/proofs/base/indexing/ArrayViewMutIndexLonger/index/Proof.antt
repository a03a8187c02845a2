-- `index` takes the view's region and the place of the index, and hands out the element there. Assumes `Logic`.
use Rattle.nd_region.proofs.SeparationLogicImports.{◌≡◌, refl, sym, ap, subst, ◌∙◌, true, ◌&&◌, ℕ, List, [], ◌∷◌, ◌++◌, SProp, ent, sep, emp, id⊢, via, fst∗, snd∗, Lft, Share, ftrue, flft, Args, Fn, a_type, dcons, dnil, named, w64, ty_ptr, inst_fn, Val, vint, vptr, vstruct, of_list, has_ty, WpFn, ◌⊑◌, Lfts, toks, fact, fact_i, fact_use, tables, ‵, raw, ◌⊛◌, some, later, ◌$◌, ◌∵◌, !, qed, done, move, keep, drop, use0, use1, split, split3, join, fsplit, fsplit3, fjoin, fpick, feq_l, pick, await, updating, now, rewrite, suffices, frame, whole, sub, enter, stop, fld, no_more, and_then, of_opd, returns, alloc_all, pass_all, free_all, look_at, get, get_in, sets, lands_as, Array, usize, no, follows, Is, shows, lone, param, copied, bounded, Laws, param_laws, copied_laws, RattleType, ptr_val, MutRef, mut_Tells, Slot, plain, named_lft, nothing, heard, only, peeks, Tuple, calls_at, Ended, Lasts, lasts, on_entry, Vals, triple_of, framed, says, Stays, stay_dropped, walk_of, ends_at, Goes-dropped}
use Rattle.std.proofs.mem.Param.{El}
use Rattle.std.proofs.raw_atomic.Walks.{proved_at}
use Rattle.std.specs.Prelude.{Option, Some, IsSome, slice_set}
use Rattle.nd_region.specs.Region.{region_stored}
use Rattle.nd_region.specs.contracts.divided_mutable_borrow.Region.{the_row as region_row}
use Rattle.nd_region.proofs.TruthOfConjunctions.{both}
use Rattle.nd_region.proofs.RegionValueAndPlaces.{rg_vals, rg_Tells, ptr_Good}
use Rattle.nd_region.proofs.divided_mutable_borrow.Region.TheLaws.{the_row_laws as region_laws}
use Rattle.nd_shape_and_slice.specs.ShapesAndIndexOrders.{in_box}
use Rattle.nd_array_core.specs.ArrayMeaning.{shape_of, element_at, place_at}
use Rattle.nd_array_core.specs.base.BorrowBehindMutableView.{region_of, with_item_at}
use Rattle.nd_array_core.specs.contracts.base.array.ArrayBase.{the_row as array_row}
use Rattle.nd_elements.specs.contracts.storage.RegionRepr.{the_row as storage_row}
use Rattle.nd_elements.specs.contracts.storage.ViewMutReprData.TheImpl as view_impl
use Rattle.nd_array_core.proofs.base.array.ArrayBase.TheLaws.{the_row_laws as array_laws_of}
use Rattle.nd_elements.proofs.storage.RegionRepr.TheLaws.{the_row_laws as storage_laws}
use Rattle.nd_array_core.proofs.lending.LongerLivingReferences.{one_value}
use Rattle.nd_region.specs.contracts.divided_mutable_borrow.Region.into_mut as K
use Rattle.nd_region.proofs.divided_mutable_borrow.Region.into_mut.Met.{met as into_met}
use Rattle.nd_array_core.specs.contracts.base.indexing.sought_in_box as S
use Rattle.nd_array_core.proofs.base.indexing.sought_in_box.Met.{met as sought_met}
use Rattle.nd_array_core.specs.contracts.base.indexing.ArrayViewMutIndexLonger.index as F
use Rattle.nd_array_core.specs.contracts.base.indexing.ArrayViewMutIndexLonger.index.Key.{name as #self}
use Rattle.nd_array_core.proofs.base.indexing.ArrayViewMutIndexLonger.index.Statement.{statement}
use Rattle.nd_array_core.proofs.base.indexing.ArrayViewMutIndexLonger.index.Code as code

pub index_spec : {M : Type 1} → statement M
index_spec 𝓤 𝓛 𝓜 𝓡 wired A D I T' lA lD lI lT cD cT d dd n nd k kd t td j jd x xd xdrop mD mN mK mT mJ mX mdrop =
    let H = 𝓛.H in let 𝓣 = tables 𝓤 H 𝓜 𝓡 𝓡.env in
    let inst : Args = bounded (a_type ∷ a_type ∷ a_type ∷ a_type ∷ []) (A, (D, (I, (T', tt)))) (dcons dd (dcons nd (dcons kd (dcons td (dcons jd (dcons xd (dcons xdrop dnil))))))) in
    let fn : Fn = inst_fn inst code.function in
    let En : Ended = F.ended A D I T' d dd n nd k kd t td j jd x xd xdrop in
    let c = F.clauses A D I T' d dd n nd k kd t td j jd x xd xdrop 𝓛 𝓜.mem 𝓡.returns in
    let E : El = record { row = A; laws = lA } in
    let AR : RattleType = param 0 A in let DR : RattleType = copied 1 D in let TR : RattleType = copied 3 T' in
    let view : Slot 5 = plain (λ κs. array_row (storage_row (region_row (named_lft 5 0 tt κs) AR)) DR TR AR TR (view_impl.ghosts AR) d n t t) in
    let hs : Stays En.signature.params En.kept = (stay_dropped view no, (stay_dropped (plain (λ _. param 2 I)) no, tt)) in
    let W = walk_of 𝓛 En hs c in
    proved_at 𝓛 En hs c 𝓜 𝓡 ((λ κs y f vs fit. qed 𝓛 (‵ ftrue ∷ []) ∵ updating ! $ nothing ! $ fjoin ! $ nothing ! $ fjoin ! $ nothing ! $ move ! (1 ∷ 0 ∷ []) $ fjoin ! $ now ! $ done !), (Goes-dropped 𝓛 5 (plain (λ _. param 2 I)) no (λ κs y f. refl), tt)) (#self inst) fn (code.unfolded 𝓤 H 𝓜 𝓡 wired (A, (D, (I, (T', tt)))) dd nd kd td jd xd xdrop) (λ y are.
    let κs : Lfts 5 = y.0.0 in let qs = y.0.1 in let bounds = y.0.2 in let a = y.0.3 in let gh = y.1 in
    let κ : Lft = κs.0 in let κA : Lft = κs.1.0 in let q : Share = qs.0 in let qA : Share = qs.1.0 in
    let others : SProp 𝓤 = toks 𝓛 3 κs.1.1 qs.1.1 in
    let Rest : SProp 𝓤 = sep 𝓤 (fact 𝓤 (κs.1.1.0 ⊑ D.lives)) (sep 𝓤 (fact 𝓤 (κs.1.1.1.0 ⊑ I.lives)) (sep 𝓤 (fact 𝓤 (κs.1.1.1.1.0 ⊑ T'.lives)) (fact 𝓤 (in_box (shape_of a.0) (x.coordinates_of a.1.0) ≡ true)))) in
    let Rg : RattleType = region_row (named_lft 5 0 tt κs) AR in
    let Two : RattleType = Tuple (Rg ∷ usize ∷ []) in
    let Lent : RattleType = MutRef (named 0) κ AR in
    let View : RattleType = array_row (storage_row Rg) DR TR AR TR (view_impl.ghosts AR) d n t t in
    let view_laws : Laws View = array_laws_of (storage_row Rg) DR TR AR TR (view_impl.ghosts AR) d n t t
    (storage_laws Rg (region_laws (named_lft 5 0 tt κs) AR (param_laws 0 A lA))) (copied_laws 1 D lD) (copied_laws 3 T' lT) (param_laws 0 A lA) (copied_laws 3 T' lT) in
    let one = one_value (lone View.mir) y.0.4.0 ((view_laws.lawful 𝓛).typed a.0 y.0.4.0 are.0) in
    let two = one_value (lone (param 2 I).mir) y.0.4.1.0 (((param_laws 2 I lI).lawful 𝓛).typed a.1.0 y.0.4.1.0 are.1.0) in
    let v : Val = one.0 in let w : Val = two.0 in
    let vss : Vals En.signature κs = (v ∷ [], (w ∷ [], tt)) in
    let S-ended : Ended = S.ended A D I T' d dd n nd k kd t td j jd x xd xdrop in
    let S-triple = triple_of 𝓛 (S.signature A D I T' d dd n nd k kd t td j jd x xd xdrop) (S.spec A D I T' d dd n nd k kd t td j jd x xd xdrop 𝓛 𝓜.mem 𝓡.returns) in
    let z₁ : S-triple.Ghost = ((κs, qs, bounds, a, vss), tt) in
    let K-ended : Ended = K.ended A in
    let K-triple = triple_of 𝓛 (K.signature A) (K.spec A 𝓛 𝓜.mem 𝓡.returns) in
    let κs₂ : Lfts 2 = (κ, (κA, tt)) in
    let Goes : Vals En.signature κs → Type 1 = λ uss. ent 𝓤 (W.pre ((κs, qs, bounds, a, uss), gh)) (WpFn 𝓤 H 𝓣.C 𝓣.Λ fn (W.args ((κs, qs, bounds, a, uss), gh)) (W.post ((κs, qs, bounds, a, uss), gh))) in
    subst Goes (sym (λ i. (one.1 i, (two.1 i, tt)))) (
    fact_use 𝓤 (κA ⊑ A.lives) (via 𝓤 _ (snd∗ 𝓤 (on_entry 𝓛 En.signature κs qs a vss) ((c κs a).requires gh)) (fst∗ 𝓤 (fact 𝓤 (κA ⊑ A.lives)) Rest)) (λ inA.
    qed 𝓛 (raw (S-triple.pre z₁) ∷ []) ∵ enter ! _ _ _ _ _ $ alloc_all ! (λ l. pass_all ! refl (one.2, (two.2, tt)) $
    sets ! (of_opd ! (get ! refl)) refl one.2 $ sets ! (of_opd ! (get ! refl)) refl two.2 $
    calls_at ! (framed 𝓤 H 𝓜 𝓣) S-triple (sought_met 𝓤 𝓛 𝓜 𝓡 (code.calls-nd_array_core::base::indexing::sought_in_box 𝓡.env wired) A D I T' lA lD lI lT cD cT d dd n nd k kd t td j jd x xd xdrop mD mN mK mT mJ mX mdrop) z₁
    (and_then ! (get ! refl) (and_then ! (get ! refl) (no_more !))) (λ got.
    let index : List ℕ = x.coordinates_of a.1.0 in
    let OfView : Two.Denot → Type 0 = λ r. r.0 ≡ region_of a.0 in
    let AtPlace : Two.Denot → Type 0 = λ r. place_at a.0 index ≡ Some r.1 in
    let IsElement : Two.Denot → Type 0 = λ r. element_at a.0 index ≡ region_stored r.0 r.1 in
    let There : Two.Denot → Type 0 = λ r. IsSome (region_stored r.0 r.1) in
    use1 𝓛 (later (some (λ (r : Two.Denot). ((‵ (flft κ q) ⊛ ‵ (flft κA qA) ⊛ raw others) ⊛ ‵ (Two.own_val r (got ∷ []))) ⊛
    some (λ (us : Lasts S-ended κs a). ‵ (lasts S-ended κs a us) ⊛ raw (fact 𝓤 (OfView r)) ⊛ raw (fact 𝓤 (AtPlace r)) ⊛ raw (fact 𝓤 (IsElement r)) ⊛ raw (fact 𝓤 (There r)))))) (id⊢ 𝓤 _) $ await ! tt $ pick ! (λ r.
    split ! $ move ! (1 ∷ []) $ pick ! (λ us. split ! $ drop ! $ split ! $ heard ! (OfView r) (λ of_view. split ! $ heard ! (AtPlace r) (λ at_place. split ! $ heard ! (IsElement r) (λ is_element. heard ! (There r) (λ there.
    let region : Rg.Denot = r.0 in let place : ℕ = r.1 in let gp = ptr_Good region.ptr in
    -- [the tokens and the pair]
    split ! $ split3 ! $ move ! (3 ∷ []) $ fpick ! (λ uss. fsplit ! $ feq_l ! (λ e. fsplit3 ! $ peeks ! Rg (Is Rg) (shows 𝓛 Rg) region uss.0 (λ is.
    let e₀ = rg_Tells (named_lft 5 0 tt κs) E region uss.0 is in rewrite ! 0 (λ (vs : List Val). ‵ (Rg.own_val region vs)) e₀ refl $
    move ! (1 ∷ []) $ peeks ! usize (Is usize) (shows 𝓛 usize) place uss.1.0 (λ is'. rewrite ! 0 (λ (vs : List Val). ‵ (usize.own_val place vs)) is'.0 refl $
    -- [the place; the region; nothing; the borrow's token; A's; the others]
    lands_as ! (ap only e ∙ (λ i. vstruct (of_list (e₀ i ++ (is'.0 i ++ []))))) refl (both (has_ty ty_ptr (ptr_val region.ptr) && true) true gp.0 tt, ((gp.1, (record { fits = region.small }, (tt, tt))), (record { fits = is'.1 }, tt))) $
    sets ! (of_opd ! (get_in ! (fld ! refl (stop !)) (sub ! 0 refl (whole !)))) refl (gp.0, (gp.1, (record { fits = region.small }, (tt, tt)))) $
    sets ! (of_opd ! (get_in ! (fld ! refl (stop !)) (sub ! 1 refl (whole !)))) refl (tt, record { fits = is'.1 }) $
    sets ! (of_opd ! (get ! refl)) refl (gp.0, (gp.1, (record { fits = region.small }, (tt, tt)))) $
    let z₂ : K-triple.Ghost = ((κs₂, (q, (qA, tt)), (bounds.0, tt), (region, (place, tt)), (rg_vals (named_lft 5 0 tt κs) E region, (vint w64 place ∷ [], tt))), tt) in
    nothing ! $ move ! (1 ∷ 0 ∷ []) $ join ! $ move ! (1 ∷ 0 ∷ []) $ join ! $ nothing ! $ move ! (4 ∷ 0 ∷ []) $ join ! $ move ! (3 ∷ 0 ∷ []) $ join ! $ move ! (0 ∷ 1 ∷ []) $ join ! $
    use0 𝓛 (raw (fact 𝓤 (There r))) (fact_i 𝓤 (There r) (emp 𝓤) there) $ use0 𝓛 (raw (fact 𝓤 (κA ⊑ A.lives))) (fact_i 𝓤 (κA ⊑ A.lives) (emp 𝓤) inA) $ join ! $
    move ! (1 ∷ 0 ∷ []) $ join ! $ use1 𝓛 (raw (K-triple.pre z₂)) (id⊢ 𝓤 _) $
    calls_at ! (framed 𝓤 H 𝓜 𝓣) K-triple (into_met 𝓤 𝓛 𝓜 𝓡 (code.calls-nd_region::divided_mutable_borrow::Region::into_mut 𝓡.env wired) A lA) z₂ (and_then ! (get ! refl) (and_then ! (get ! refl) (no_more !))) (λ v'.
    let Gives : Lent.Denot → Type 0 = λ m. region_stored region place ≡ Some m.now in
    use1 𝓛 (later (some (λ (m : Lent.Denot). ((‵ (flft κ q) ⊛ ‵ (flft κA qA) ⊛ ‵ ftrue) ⊛ ‵ (Lent.own_val m (v' ∷ []))) ⊛
    some (λ (ws : Lasts K-ended κs₂ (region, (place, tt))). ‵ (lasts K-ended κs₂ (region, (place, tt)) ws) ⊛ ‵ (follows (Array AR 0) AR region.name m.ghost_name (λ u. slice_set region.items place u)) ⊛ raw (fact 𝓤 (Gives m)))))) (id⊢ 𝓤 _) $ await ! tt $ pick ! (λ m.
    split ! $ move ! (1 ∷ []) $ pick ! (λ ws. split ! $ drop ! $ split ! $ move ! (1 ∷ []) $ heard ! (Gives m) (λ gives.
    -- [what the region's borrow follows; the tokens and the reference; ..; the others]
    rewrite ! 0 (λ (g : Rg.Denot × Option ℕ). ‵ (follows (Array AR 0) AR g.0.name m.ghost_name (λ u. with_item_at g.0.items g.1 u))) (λ i. (of_view i, sym at_place i)) refl $
    move ! (1 ∷ []) $ split ! $ move ! (1 ∷ []) $ peeks ! Lent (Is Lent) (shows 𝓛 Lent) m (v' ∷ []) (λ typed.
    let e' = mut_Tells (named 0) κ AR m (v' ∷ []) typed in
    rewrite ! 0 (λ (vs : List Val). ‵ (Lent.own_val m vs)) e' refl $
    lands_as ! (ap only e') refl (tt, tt) $ returns ! (look_at ! 0 refl) $ free_all ! refl $
    suffices ! _ (ends_at 𝓛 En hs c ((κs, qs, bounds, a, vss), gh) (vptr m.ref_ptr.0 m.ref_ptr.1) m (((tt, (tt, tt)), tt), (tt, tt)) (tt, (tt, tt))) $
    -- [the reference; the tokens; what follows; nothing; the others]
    move ! (1 ∷ []) $ split3 ! $ move ! (3 ∷ []) $ nothing ! $ nothing ! $ fjoin ! $ nothing ! $ fjoin ! $ join ! $
    move ! (2 ∷ 6 ∷ []) $ join ! $ move ! (2 ∷ 0 ∷ []) $ join ! $ join ! $ keep ! (0 ∷ 2 ∷ []) $ frame ! $ says ! (is_element ∙ gives) $ done !))))))))))))))))))))

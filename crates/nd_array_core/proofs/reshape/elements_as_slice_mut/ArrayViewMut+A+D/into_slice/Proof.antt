-- `into_slice` takes the view apart, and hands on what `run_if` gives of its region. Assumes `Logic`.
use Rattle.nd_region.proofs.SeparationLogicImports.{◌≡◌, refl, sym, ap, subst, ◌∙◌, Bool, true, ◌&&◌, ℕ, List, [], ◌∷◌, ◌++◌, SProp, ent, sep, emp, id⊢, via, fst∗, snd∗, Lft, Share, ftrue, flft, Args, Fn, a_type, dcons, dnil, named, w64, ty_ptr, inst_fn, Val, vint, vbool, vstruct, of_list, has_ty, WpFn, ◌⊑◌, Lfts, toks, fact, fact_i, fact_use, tables, ‵, raw, ◌⊛◌, some, later, ◌$◌, ◌∵◌, !, qed, done, move, keep, drop, use0, use1, split, split3, join, fsplit, fsplit3, fjoin, fpick, feq_l, pick, await, updating, now, rewrite, suffices, frame, whole, sub, enter, stop, fld, no_more, and_then, of_opd, returns, alloc_all, pass_all, free_all, look_at, get, get_in, sets, lands_as, usize, bool, no, Is, shows, lone, param, copied, bounded, Laws, param_laws, copied_laws, of_field, row_shared, RattleType, ptr_val, NamedLft, mut_slice_shared, mut_slice_field, mut_slice_laws, MutSlice, Slot, plain, named_lft, nothing, heard, only, peeks, Tuple, calls_at, Ended, Lasts, lasts, on_entry, Vals, triple_of, framed, Stays, stay_dropped, walk_of, ends_at}
use Rattle.std.specs.Prelude.{IsSome, IfSome, IsTrue, ◌↔◌}
use Rattle.std.specs.contracts.option.Option as OP
use Rattle.std.proofs.option.Option.TheLaws.{the_row_laws as option_laws}
use Rattle.std.proofs.mem.Facts.{says_two}
use Rattle.std.proofs.mem.Param.{El}
use Rattle.std.proofs.raw_atomic.Walks.{proved_at}
use Rattle.nd_shape_and_slice.specs.ShapesAndIndexOrders.{size_of}
use Rattle.nd_array_core.specs.reshape.ArrayAfterSliceBorrow.{run_may_follow}
use Rattle.nd_region.specs.Region.{HasRun, IsRunOf}
use Rattle.nd_region.specs.contracts.divided_mutable_borrow.Region.{the_row as region_row}
use Rattle.nd_region.proofs.TruthOfConjunctions.{both as both_in}
use Rattle.nd_region.proofs.RegionValueAndPlaces.{rg_vals, rg_Tells, ptr_Good}
use Rattle.nd_region.proofs.divided_mutable_borrow.Region.TheLaws.{the_row_laws as region_laws}
use Rattle.nd_elements.specs.contracts.storage.RegionRepr.{the_row as storage_row}
use Rattle.nd_elements.specs.contracts.storage.ViewMutReprData.TheImpl as view_impl
use Rattle.nd_elements.proofs.storage.RegionRepr.TheLaws.{the_row_laws as storage_laws}
use Rattle.nd_elements.specs.ShapeAndElements.{row_major_elements}
use Rattle.nd_array_core.specs.ArrayMeaning.{meaning_of, shape_of, layout_offset}
use Rattle.nd_array_core.specs.reshape.ElementsAsSlice.{IsStandardArray}
use Rattle.nd_array_core.specs.base.BorrowBehindMutableView.{region_of}
use Rattle.nd_array_core.specs.contracts.base.array.ArrayBase.{the_row as array_row}
use Rattle.nd_array_core.proofs.base.array.ArrayBase.TheLaws.{the_row_laws as array_laws_of}
use Rattle.nd_array_core.proofs.lending.BoolAndOptionFacts.{shown_as}
use Rattle.nd_array_core.proofs.lending.LongerLivingReferences.{one_value}
use Rattle.nd_array_core.specs.contracts.reshape.elements_as_slice_mut.run_if as R
use Rattle.nd_array_core.proofs.reshape.elements_as_slice_mut.run_if.Met.{met as run_met}
use Rattle.nd_array_core.specs.contracts.reshape.elements_as_slice_mut.apart_rows as K
use Rattle.nd_array_core.proofs.reshape.elements_as_slice_mut.apart_rows.Met.{met as apart_met}
use Rattle.nd_array_core.specs.contracts.reshape.elements_as_slice_mut.ArrayViewMut+A+D.into_slice as F
use Rattle.nd_array_core.specs.contracts.reshape.elements_as_slice_mut.ArrayViewMut+A+D.into_slice.Key.{name as #self}
use Rattle.nd_array_core.proofs.reshape.elements_as_slice_mut.ArrayViewMut+A+D.into_slice.Statement.{statement}
use Rattle.nd_array_core.proofs.reshape.elements_as_slice_mut.ArrayViewMut+A+D.into_slice.Code as code

pub into_slice_spec : {M : Type 1} → statement M
into_slice_spec 𝓤 𝓛 𝓜 𝓡 wired A D X lA lD lX cD cX d dd n nd k kd t td j jd mD mN mK mX mJ =
    let H = 𝓛.H in let 𝓣 = tables 𝓤 H 𝓜 𝓡 𝓡.env in
    let inst : Args = bounded (a_type ∷ a_type ∷ a_type ∷ []) (A, (D, (X, tt))) (dcons dd (dcons nd (dcons kd (dcons td (dcons jd dnil))))) in
    let fn : Fn = inst_fn inst code.function in
    let En : Ended = F.ended A D X d dd n nd k kd t td j jd in
    let c = F.clauses A D X d dd n nd k kd t td j jd 𝓛 𝓜.mem 𝓡.returns in
    let E : El = record { row = A; laws = lA } in
    let AR : RattleType = param 0 A in let DR : RattleType = copied 1 D in let XR : RattleType = copied 2 X in
    let view : Slot 4 = plain (λ κs. array_row (storage_row (region_row (named_lft 4 0 tt κs) AR)) DR XR AR XR (view_impl.ghosts AR) d n t t) in
    let hs : Stays En.signature.params En.kept = (stay_dropped view no, tt) in
    let W = walk_of 𝓛 En hs c in
    proved_at 𝓛 En hs c 𝓜 𝓡 ((λ κs y f vs fit. qed 𝓛 (‵ ftrue ∷ []) ∵ updating ! $ nothing ! $ fjoin ! $ nothing ! $ fjoin ! $ nothing ! $ move ! (1 ∷ 0 ∷ []) $ fjoin ! $ now ! $ done !), tt) (#self inst) fn (code.unfolded 𝓤 H 𝓜 𝓡 wired (A, (D, (X, tt))) dd nd kd td jd) (λ y are.
    let κs : Lfts 4 = y.0.0 in let qs = y.0.1 in let bounds = y.0.2 in let a = y.0.3 in let gh = y.1 in
    let κ : Lft = κs.0 in let κA : Lft = κs.1.0 in let q : Share = qs.0 in let qA : Share = qs.1.0 in
    let others : SProp 𝓤 = toks 𝓛 2 κs.1.1 qs.1.1 in
    let Rest : SProp 𝓤 = sep 𝓤 (fact 𝓤 (κs.1.1.0 ⊑ D.lives)) (sep 𝓤 (fact 𝓤 (κs.1.1.1.0 ⊑ X.lives)) (emp 𝓤)) in
    let Rg : RattleType = region_row (named_lft 4 0 tt κs) AR in
    let Four : RattleType = Tuple (Rg ∷ usize ∷ usize ∷ bool ∷ []) in
    let Lent : RattleType = MutSlice (named 0) κ AR in let Out : RattleType = OP.the_row Lent in
    let borrowed : NamedLft = record { mir = named 0; lft = κ } in
    let out_laws : Laws Out = option_laws Lent (of_field (mut_slice_field borrowed AR tt) (mut_slice_laws borrowed AR tt) refl (mut_slice_shared borrowed AR tt (row_shared AR (param_laws 0 A lA)))) in
    let View : RattleType = array_row (storage_row Rg) DR XR AR XR (view_impl.ghosts AR) d n t t in
    let view_laws : Laws View = array_laws_of (storage_row Rg) DR XR AR XR (view_impl.ghosts AR) d n t t
    (storage_laws Rg (region_laws (named_lft 4 0 tt κs) AR (param_laws 0 A lA))) (copied_laws 1 D lD) (copied_laws 2 X lX) (param_laws 0 A lA) (copied_laws 2 X lX) in
    let one = one_value (lone View.mir) y.0.4.0 ((view_laws.lawful 𝓛).typed a.0 y.0.4.0 are.0) in
    let v : Val = one.0 in
    let vss : Vals En.signature κs = (v ∷ [], tt) in
    let K-ended : Ended = K.ended A D X d dd n nd k kd t td j jd in
    let K-triple = triple_of 𝓛 (K.signature A D X d dd n nd k kd t td j jd) (K.spec A D X d dd n nd k kd t td j jd 𝓛 𝓜.mem 𝓡.returns) in
    let zK : K-triple.Ghost = ((κs, qs, bounds, a, vss), tt) in
    let κs₂ : Lfts 2 = (κ, (κA, tt)) in
    let R-ended : Ended = R.ended A in
    let R-triple = triple_of 𝓛 (R.signature A) (R.spec A 𝓛 𝓜.mem 𝓡.returns) in
    let Goes : Vals En.signature κs → Type 1 = λ uss. ent 𝓤 (W.pre ((κs, qs, bounds, a, uss), gh)) (WpFn 𝓤 H 𝓣.C 𝓣.Λ fn (W.args ((κs, qs, bounds, a, uss), gh)) (W.post ((κs, qs, bounds, a, uss), gh))) in
    subst Goes (sym (λ i. (one.1 i, tt))) (
    fact_use 𝓤 (κA ⊑ A.lives) (via 𝓤 _ (snd∗ 𝓤 (on_entry 𝓛 En.signature κs qs a vss) ((c κs a).requires gh)) (fst∗ 𝓤 (fact 𝓤 (κA ⊑ A.lives)) Rest)) (λ inA.
    qed 𝓛 (raw (K-triple.pre zK) ∷ []) ∵ enter ! _ _ _ _ _ $ alloc_all ! (λ l. pass_all ! refl (one.2, tt) $
    sets ! (of_opd ! (get ! refl)) refl one.2 $
    calls_at ! (framed 𝓤 H 𝓜 𝓣) K-triple (apart_met 𝓤 𝓛 𝓜 𝓡 (code.calls-nd_array_core::reshape::elements_as_slice_mut::apart_rows 𝓡.env wired) A D X lA lD lX cD cX d dd n nd k kd t td j jd mD mN mK mX mJ) zK (and_then ! (get ! refl) (no_more !)) (λ got.
    let Count : ℕ = size_of (shape_of a.0) in let First : ℕ = layout_offset a.0 in
    let OfView : Four.Denot → Type 0 = λ r. r.0 ≡ region_of a.0 in
    let IsFirst : Four.Denot → Type 0 = λ r. r.1 ≡ First in
    let IsCount : Four.Denot → Type 0 = λ r. r.2 ≡ Count in
    let Asked : Four.Denot → Type 0 = λ r. IsTrue r.3 ↔ IsStandardArray a.0 in
    let There : Four.Denot → Type 0 = λ r. IsTrue r.3 → HasRun r.0 r.1 r.2 in
    let IsShownSlice : List A.Denot → Type 0 = λ xs. xs ≡ row_major_elements (meaning_of a.0) in
    let Shows : Four.Denot → Type 0 = λ r. IsTrue r.3 → (xs : List A.Denot) → IsRunOf r.0 r.1 r.2 xs → IsShownSlice xs in
    use1 𝓛 (later (some (λ (r : Four.Denot). ((‵ (flft κ q) ⊛ ‵ (flft κA qA) ⊛ raw others) ⊛ ‵ (Four.own_val r (got ∷ []))) ⊛
    some (λ (us : Lasts K-ended κs a). ‵ (lasts K-ended κs a us) ⊛ raw (fact 𝓤 (OfView r)) ⊛ raw (fact 𝓤 (IsFirst r)) ⊛ raw (fact 𝓤 (IsCount r)) ⊛ raw (fact 𝓤 (Asked r)) ⊛ raw (fact 𝓤 (There r)) ⊛ raw (fact 𝓤 (Shows r)))))) (id⊢ 𝓤 _) $ await ! tt $ pick ! (λ r.
    split ! $ move ! (1 ∷ []) $ pick ! (λ us. split ! $ drop ! $ split ! $ heard ! (OfView r) (λ of_view. split ! $ heard ! (IsFirst r) (λ is_first. split ! $ heard ! (IsCount r) (λ is_count. split ! $ heard ! (Asked r) (λ asks. split ! $ heard ! (There r) (λ there. heard ! (Shows r) (λ shows_them.
    let region : Rg.Denot = r.0 in let place : ℕ = r.1 in let count : ℕ = r.2 in let asked : Bool = r.3 in let gp = ptr_Good region.ptr in
    -- [the tokens and the four]
    split ! $ split3 ! $ move ! (3 ∷ []) $ fpick ! (λ uss. fsplit ! $ feq_l ! (λ e. fsplit3 ! $ peeks ! Rg (Is Rg) (shows 𝓛 Rg) region uss.0 (λ is.
    let e₀ = rg_Tells (named_lft 4 0 tt κs) E region uss.0 is in rewrite ! 0 (λ (vs : List Val). ‵ (Rg.own_val region vs)) e₀ refl $
    move ! (1 ∷ []) $ peeks ! usize (Is usize) (shows 𝓛 usize) place uss.1.0 (λ is₁. rewrite ! 0 (λ (vs : List Val). ‵ (usize.own_val place vs)) is₁.0 refl $
    move ! (2 ∷ []) $ fsplit3 ! $ peeks ! usize (Is usize) (shows 𝓛 usize) count uss.1.1.0 (λ is₂. rewrite ! 0 (λ (vs : List Val). ‵ (usize.own_val count vs)) is₂.0 refl $
    move ! (1 ∷ []) $ peeks ! bool (Is bool) (shows 𝓛 bool) asked uss.1.1.1.0 (λ is₃. rewrite ! 0 (λ (vs : List Val). ‵ (bool.own_val asked vs)) is₃ refl $
    -- [the answer; how many; nothing; the place; the region; the borrow's token; A's; the others]
    lands_as ! (ap only e ∙ (λ i. vstruct (of_list (e₀ i ++ (is₁.0 i ++ (is₂.0 i ++ (is₃ i ++ []))))))) refl
    (both_in (has_ty ty_ptr (ptr_val region.ptr) && true) true gp.0 tt, ((gp.1, (record { fits = region.small }, (tt, tt))), (record { fits = is₁.1 }, (record { fits = is₂.1 }, (tt, tt))))) $
    sets ! (of_opd ! (get_in ! (fld ! refl (stop !)) (sub ! 0 refl (whole !)))) refl (gp.0, (gp.1, (record { fits = region.small }, (tt, tt)))) $
    sets ! (of_opd ! (get_in ! (fld ! refl (stop !)) (sub ! 1 refl (whole !)))) refl (tt, record { fits = is₁.1 }) $
    sets ! (of_opd ! (get_in ! (fld ! refl (stop !)) (sub ! 2 refl (whole !)))) refl (tt, record { fits = is₂.1 }) $
    sets ! (of_opd ! (get_in ! (fld ! refl (stop !)) (sub ! 3 refl (whole !)))) refl (tt, tt) $
    let Has : Type 0 = IsTrue asked → HasRun region place count in
    sets ! (of_opd ! (get ! refl)) refl (gp.0, (gp.1, (record { fits = region.small }, (tt, tt)))) $
    let z₂ : R-triple.Ghost = ((κs₂, (q, (qA, tt)), (bounds.0, tt), (region, (place, (count, (asked, tt)))), (rg_vals (named_lft 4 0 tt κs) E region, (vint w64 place ∷ [], (vint w64 count ∷ [], (vbool asked ∷ [], tt))))), tt) in
    nothing ! $ move ! (1 ∷ 0 ∷ []) $ join ! $ move ! (1 ∷ 0 ∷ []) $ join ! $ move ! (2 ∷ 0 ∷ []) $ join ! $ move ! (2 ∷ 0 ∷ []) $ join ! $
    nothing ! $ move ! (4 ∷ 0 ∷ []) $ join ! $ move ! (3 ∷ 0 ∷ []) $ join ! $ join ! $
    use0 𝓛 (raw (fact 𝓤 Has)) (fact_i 𝓤 Has (emp 𝓤) there) $ use0 𝓛 (raw (fact 𝓤 (κA ⊑ A.lives))) (fact_i 𝓤 (κA ⊑ A.lives) (emp 𝓤) inA) $ join ! $
    move ! (1 ∷ 0 ∷ []) $ join ! $ use1 𝓛 (raw (R-triple.pre z₂)) (id⊢ 𝓤 _) $
    calls_at ! (framed 𝓤 H 𝓜 𝓣) R-triple (run_met 𝓤 𝓛 𝓜 𝓡 (code.calls-nd_array_core::reshape::elements_as_slice_mut::run_if 𝓡.env wired) A lA) z₂ (and_then ! (get ! refl) (and_then ! (get ! refl) (and_then ! (get ! refl) (and_then ! (get ! refl) (no_more !))))) (λ v'.
    let There : Out.Denot → Type 0 = λ m. IsSome m ↔ IsTrue asked in
    let Values : Out.Denot → Type 0 = λ m. IfSome m (λ s. IsRunOf region place count s.now) in
    use1 𝓛 (later (some (λ (m : Out.Denot). ((‵ (flft κ q) ⊛ ‵ (flft κA qA) ⊛ ‵ ftrue) ⊛ ‵ (Out.own_val m (v' ∷ []))) ⊛
    some (λ (ws : Lasts R-ended κs₂ (region, (place, (count, (asked, tt))))). ‵ (lasts R-ended κs₂ (region, (place, (count, (asked, tt)))) ws) ⊛ ‵ (run_may_follow AR region place count m) ⊛ raw (fact 𝓤 (There m)) ⊛ raw (fact 𝓤 (Values m)))))) (id⊢ 𝓤 _) $ await ! tt $ pick ! (λ m.
    split ! $ move ! (1 ∷ []) $ pick ! (λ ws. split ! $ drop ! $ split ! $ move ! (1 ∷ []) $ split ! $ heard ! (There m) (λ is_there. heard ! (Values m) (λ values.
    rewrite ! 0 (λ (k : ℕ). ‵ (run_may_follow AR region place k m)) is_count refl $ rewrite ! 0 (λ (p : ℕ). ‵ (run_may_follow AR region p Count m)) is_first refl $
    rewrite ! 0 (λ (g : Rg.Denot). ‵ (run_may_follow AR g First Count m)) of_view refl $
    move ! (1 ∷ []) $ split ! $ move ! (1 ∷ []) $ peeks ! Out (Is Out) (shows 𝓛 Out) m (v' ∷ []) (λ typed.
    lands_as ! refl refl ((out_laws.lawful 𝓛).typed m (v' ∷ []) typed).0 $ returns ! (look_at ! 0 refl) $ free_all ! refl $ keep ! (0 ∷ 1 ∷ 2 ∷ 4 ∷ []) $
    suffices ! _ (ends_at 𝓛 En hs c ((κs, qs, bounds, a, vss), gh) v' m (((tt, (tt, tt)), tt), tt) (tt, tt)) $
    -- [the answer; the tokens; what follows; the others]
    move ! (1 ∷ []) $ split3 ! $ move ! (3 ∷ []) $ nothing ! $ nothing ! $ fjoin ! $ join ! $
    move ! (2 ∷ 5 ∷ []) $ join ! $ move ! (2 ∷ 0 ∷ []) $ join ! $ join ! $ keep ! (0 ∷ 2 ∷ []) $ frame ! $
    says_two ! (((λ s. asks.0 (is_there.0 s)), λ h. is_there.1 (asks.1 h)), shown_as m (λ s. IsRunOf region place count s.now) (λ s. IsShownSlice s.now) (λ s x is. shows_them (is_there.0 s) x.now is) values) $ done !)))))))))))))))))))))))))

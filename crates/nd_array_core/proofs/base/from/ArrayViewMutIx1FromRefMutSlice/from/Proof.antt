-- `from` makes a region of the slice, and a view of the region. Assumes `Logic`.
use Rattle.nd_region.proofs.SeparationLogicImports.{◌≡◌, refl, sym, ap, subst, ◌∙◌, ℕ, ◌<◌, List, [], ◌∷◌, length, emp, id⊢, via, fst∗, snd∗, Lft, Share, ftrue, flft, Args, Fn, a_type, dnil, named, w64, inst_fn, Val, vint, ◌⊑◌, fact, fact_i, fact_use, tables, ‵, raw, ◌⊛◌, some, later, ◌$◌, ◌∵◌, !, qed, done, move, drop, use0, use1, split, join, fjoin, pick, await, rewrite, suffices, frame, whole, sub, agg, enter, addr, stop, fld, hop, from, no_more, and_then, of_opd, returns, alloc_all, pass_all, free_all, look_at, look_in_at, get, get_in, sets, lands_as, Array, usize, no, follows, Is, shows, Lawful, uint_Makes, param, bounded, number, param_laws, of_field, array_laws, copy_shared, RattleType, MutBor, plain, named_lft, mut_slice_of, type_at, mut_slice_vals, mut_slice_Tells, nothing, heard, owned, peeks, i64-field, i64-laws, i64-copy, calls_at, Ended, Lasts, lasts, on_entry, triple_of, framed, says, Stays, stay_dropped, walk_of, ends_at, Goes-spent_slice}
use Rattle.std.proofs.raw_atomic.Walks.{proved}
use Rattle.std.specs.Prelude.{IsSome, slice_get}
use Rattle.nd_shape_and_slice.specs.ShapesAndIndexOrders.{row_rank, HasCheckedSize}
use Rattle.nd_shape_and_slice.specs.DefaultAndFortranStrides.{c_strides}
use Rattle.nd_shape_and_slice.specs.contracts.dimension.ArrayIsizeStrideList.TheImpl as strides_impl
use Rattle.nd_shape_and_slice.specs.contracts.fixed_dimensions.Dim.{the_row as dim_row}
use Rattle.nd_shape_and_slice.specs.contracts.fixed_dimensions.DimAxisCount.TheImpl as count_impl
use Rattle.nd_shape_and_slice.specs.contracts.fixed_dimensions.DimDimension.TheImpl as dim_impl
use Rattle.nd_shape_and_slice.proofs.fixed_dimensions.Dim.TheLaws.{the_row_laws as dim_laws}
use Rattle.nd_shape_and_slice.proofs.ListEdits.{there_is_some}
use Rattle.nd_region.specs.Region.{IsWhole, region_stored}
use Rattle.nd_region.specs.contracts.divided_mutable_borrow.Region.{the_row as region_row}
use Rattle.nd_region.proofs.divided_mutable_borrow.Region.TheLaws.{the_row_laws as region_laws}
use Rattle.nd_array_core.specs.base.ViewsOfSlicesAndRows.{IsAllZero}
use Rattle.nd_array_core.specs.ArrayMeaning.{shape_of, element_at, layout_strides, storage_of}
use Rattle.nd_elements.specs.ShapeAndElements.{inside}
use Rattle.nd_elements.specs.contracts.storage.RegionRepr.{the_row as storage_row}
use Rattle.nd_elements.proofs.storage.RegionRepr.TheLaws.{the_row_laws as storage_laws}
use Rattle.nd_elements.specs.contracts.storage.ViewMutReprData.TheImpl as view_impl
use Rattle.nd_array_core.proofs.base.array.ArrayBase.TheLaws.{the_row_laws as array_laws_of}
use Rattle.nd_elements.proofs.tasks.StoragePartLent.{whole_holds}
use Rattle.nd_region.specs.contracts.divided_mutable_borrow.Region.from_slice as O
use Rattle.nd_region.proofs.divided_mutable_borrow.Region.from_slice.Met.{met as of_met}
use Rattle.nd_array_core.specs.contracts.base.from.region_on_one_axis as V
use Rattle.nd_array_core.proofs.base.from.region_on_one_axis.Met.{met as view_met}
use Rattle.nd_array_core.specs.contracts.base.from.ArrayViewMutIx1FromRefMutSlice.from as F
use Rattle.nd_array_core.specs.contracts.base.from.ArrayViewMutIx1FromRefMutSlice.from.Key.{name as #self}
use Rattle.nd_array_core.proofs.base.from.ArrayViewMutIx1FromRefMutSlice.from.Statement.{statement}
use Rattle.nd_array_core.proofs.base.from.ArrayViewMutIx1FromRefMutSlice.from.Code as code

pub from_spec : {M : Type 1} → statement M
from_spec 𝓤 𝓛 𝓜 𝓡 wired A lA =
    let H = 𝓛.H in let 𝓣 = tables 𝓤 H 𝓜 𝓡 𝓡.env in
    let inst : Args = bounded (a_type ∷ []) (A, tt) dnil in
    let fn : Fn = inst_fn inst code.function in
    let En : Ended = F.ended A in
    let c = F.clauses A 𝓛 𝓜.mem 𝓡.returns in
    let R : RattleType = param 0 A in
    let hs : Stays En.signature.params En.kept = (stay_dropped (mut_slice_of (0 ∷ []) tt (plain (λ _. R))) no, tt) in
    proved 𝓛 En hs c 𝓜 𝓡 (Goes-spent_slice 𝓛 2 (0 ∷ []) tt (plain (λ _. R)), tt) (#self inst) fn (code.unfolded 𝓤 H 𝓜 𝓡 wired (A, tt))
    (λ κs. (mut_slice_vals, tt)) (λ κs. (mut_slice_Tells (named 0) κs.0 R, tt)) (λ κs qs bounds a gh are.
    let κ : Lft = κs.0 in let κA : Lft = κs.1.0 in let q : Share = qs.0 in let qA : Share = qs.1.0 in
    let xs : MutBor (List A.Denot) = a.0 in
    let n : ℕ = length xs.now in
    let rm = are.0.0.1 in
    let vs : List Val = mut_slice_vals xs in
    let y : (walk_of 𝓛 En hs c).Ghost = ((κs, qs, bounds, a, (vs, tt)), gh) in
    let O-ended : Ended = O.ended A in
    let O-triple = triple_of 𝓛 (O.signature A) (O.spec A 𝓛 𝓜.mem 𝓡.returns) in
    let z : O-triple.Ghost = ((κs, qs, bounds, a, (vs, tt)), tt) in
    let Rg : RattleType = region_row (named_lft 2 0 tt κs) R in
    let View : RattleType = type_at {n = 2} (V.signature A).result κs in
    fact_use 𝓤 (κA ⊑ A.lives) (via 𝓤 _ (snd∗ 𝓤 (on_entry 𝓛 En.signature κs qs a (vs, tt)) ((c κs a).requires gh)) (fst∗ 𝓤 (fact 𝓤 (κA ⊑ A.lives)) (emp 𝓤))) (λ inA.
    qed 𝓛 (raw (O-triple.pre z) ∷ []) ∵ enter ! _ _ _ _ _ $ alloc_all ! (λ l. pass_all ! refl ((tt, (tt, (record { fits = rm.0 }, tt))), tt) $
    sets ! (of_opd ! (get_in ! (fld ! refl (stop !)) (sub ! 1 refl (whole !)))) refl (tt, record { fits = rm.0 }) $
    sets ! (addr ! (from ! (fld ! refl (hop ! (look_in_at ! 1 (sub ! 0 refl (whole !))) (stop !))))) refl (tt, tt) $
    sets ! (agg ! (and_then ! (get ! refl) (and_then ! (get_in ! (fld ! refl (stop !)) (sub ! 1 refl (whole !))) (no_more !)))) refl (tt, (tt, (record { fits = rm.0 }, tt))) $
    calls_at ! (framed 𝓤 H 𝓜 𝓣) O-triple (of_met 𝓤 𝓛 𝓜 𝓡 (code.calls-nd_region::divided_mutable_borrow::Region::from_slice 𝓡.env wired) A lA) z
    (and_then ! (get ! refl) (no_more !)) (λ v.
    use1 𝓛 (later (some (λ (x : Rg.Denot). ((‵ (flft κ q) ⊛ ‵ (flft κA qA) ⊛ ‵ ftrue) ⊛ ‵ (Rg.own_val x (v ∷ []))) ⊛
    some (λ (us : Lasts O-ended κs a). ‵ (lasts O-ended κs a us) ⊛ ‵ (follows (Array R 0) (Array R 0) xs.ghost_name x.name (λ w. w)) ⊛ raw (fact 𝓤 (IsWhole x xs.now)))))) (id⊢ 𝓤 _) $ await ! tt $ pick ! (λ x.
    split ! $ move ! (1 ∷ []) $ pick ! (λ us. split ! $ drop ! $ split ! $ move ! (1 ∷ []) $ heard ! (IsWhole x xs.now) (λ is_whole.
    -- [what the slice follows; the tokens and the region]
    move ! (1 ∷ []) $ split ! $ move ! (1 ∷ []) $ peeks ! Rg (Is Rg) (shows 𝓛 Rg) x (v ∷ []) (λ typed.
    let good = (region_laws (named_lft 2 0 tt κs) R (param_laws 0 A lA)).lawful 𝓛 in
    lands_as ! refl refl (good.typed x (v ∷ []) typed).0 $
    -- [the region; the tokens; what the slice follows]
    let same : (p : ℕ) → region_stored x p ≡ slice_get xs.now p = whole_holds x xs.now is_whole in
    let Has : Type 0 = (p : ℕ) → p < n → IsSome (region_stored x p) in
    let has : Has = λ p below. subst IsSome (sym (same p)) (there_is_some xs.now p below) in
    let V-ended : Ended = V.ended A in
    let V-triple = triple_of 𝓛 (V.signature A) (V.spec A 𝓛 𝓜.mem 𝓡.returns) in
    let z₂ : V-triple.Ghost = ((κs, qs, bounds, (x, (n, tt)), (v ∷ [], (vint w64 n ∷ [], tt))), tt) in
    use0 𝓛 (raw (fact 𝓤 Has)) (fact_i 𝓤 Has (emp 𝓤) has) $ use0 𝓛 (raw (fact 𝓤 (κA ⊑ A.lives))) (fact_i 𝓤 (κA ⊑ A.lives) (emp 𝓤) inA) $ join ! $
    nothing ! $ owned ! usize _ (uint_Makes 𝓛 w64) n _ (refl, rm.0) $ join ! $ move ! (2 ∷ 0 ∷ []) $ join ! $ move ! (2 ∷ 0 ∷ []) $ join ! $ join ! $
    use1 𝓛 (raw (V-triple.pre z₂)) (id⊢ 𝓤 _) $
    calls_at ! (framed 𝓤 H 𝓜 𝓣) V-triple (view_met 𝓤 𝓛 𝓜 𝓡 (code.calls-nd_array_core::base::from::region_on_one_axis 𝓡.env wired) A lA) z₂
    (and_then ! (get ! refl) (and_then ! (get ! refl) (no_more !))) (λ v'.
    let Held : View.Denot → Type 0 = λ r. HasCheckedSize (n ∷ []) → (shape_of r ≡ n ∷ []) × (layout_strides r ≡ c_strides (n ∷ [])) × ((i : List ℕ) → element_at r i ≡ inside (n ∷ []) i (region_stored x (row_rank (n ∷ []) i))) in
    let Empty : View.Denot → Type 0 = λ r. (HasCheckedSize (n ∷ []) → ⊥) → IsAllZero 1 r in
    use1 𝓛 (later (some (λ (r : View.Denot). ((‵ (flft κ q) ⊛ ‵ (flft κA qA) ⊛ ‵ ftrue) ⊛ ‵ (View.own_val r (v' ∷ []))) ⊛
    some (λ (ws : Lasts V-ended κs (x, (n, tt))). ‵ (lasts V-ended κs (x, (n, tt)) ws) ⊛ raw (fact 𝓤 (Held r)) ⊛ raw (fact 𝓤 (Empty r)) ⊛ raw (fact 𝓤 ((storage_of r).region ≡ x)))))) (id⊢ 𝓤 _) $ await ! tt $ pick ! (λ r.
    split ! $ move ! (1 ∷ []) $ pick ! (λ ws. split ! $ drop ! $ split ! $ heard ! (Held r) (λ held. split ! $ heard ! (Empty r) (λ empty. heard ! ((storage_of r).region ≡ x) (λ is.
    -- [the tokens and the view; what the slice follows]
    split ! $ move ! (1 ∷ []) $ peeks ! View (Is View) (shows 𝓛 View) r (v' ∷ []) (λ typed'.
    let good' : Lawful 𝓛 View = (array_laws_of (storage_row Rg) (dim_row (number 1)) (Array i64-field.row 1) R (Array i64-field.row 1)
    (view_impl.ghosts R) (dim_impl.ghosts (number 1)) (count_impl.ghosts (number 1)) (strides_impl.ghosts (number 1)) (strides_impl.ghosts (number 1))
    (storage_laws Rg (region_laws (named_lft 2 0 tt κs) R (param_laws 0 A lA))) (dim_laws (number 1) refl)
    (array_laws i64-field.row (of_field i64-field i64-laws refl (copy_shared i64-field i64-copy)) 1) (param_laws 0 A lA)
    (array_laws i64-field.row (of_field i64-field i64-laws refl (copy_shared i64-field i64-copy)) 1)).lawful 𝓛 in
    lands_as ! refl refl (good'.typed r (v' ∷ []) typed').0 $
    rewrite ! 2 (λ (g : Rg.Denot). ‵ (follows (Array R 0) (Array R 0) xs.ghost_name g.name (λ w. w))) (sym is) refl $
    returns ! (look_at ! 0 refl) $ free_all ! refl $
    suffices ! _ (ends_at 𝓛 En hs c y v' r (tt, tt) (tt, tt)) $
    nothing ! $ nothing ! $ fjoin ! $ join ! $ move ! (1 ∷ 0 ∷ []) $ join ! $ frame ! $
    says ! ((λ checked. let is_held = held checked in (is_held.0, is_held.1, λ i. is_held.2 i ∙ ap (inside (n ∷ []) i) (same (row_rank (n ∷ []) i)))), empty) $ done !)))))))))))))))

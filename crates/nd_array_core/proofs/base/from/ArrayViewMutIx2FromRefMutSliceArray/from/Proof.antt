-- `from` lends the rows that have places, makes a region of them, and a view of the region. Assumes `Logic`.
use Rattle.nd_region.proofs.SeparationLogicImports.{◌≡◌, refl, sym, ap, subst, ◌∙◌, ℕ, ◌*◌, ◌<◌, ◌≤◌, ◌^◌, List, [], ◌∷◌, ◌++◌, length, take, take-append-drop, SProp, emp, id⊢, Lft, Share, GName, ftrue, flft, Args, Fn, a_type, a_number, named, w64, inst_fn, Val, vint, ◌⊑◌, fact, fact_i, tables, size, ‵, raw, ◌⊛◌, some, later, ◌$◌, ◌∵◌, !, qed, done, learn, move, keep, drop, use0, use1, use2, split, split3, join, fsplit, fjoin, pick, await, rewrite, suffices, frame, whole, sub, agg, enter, addr, stop, fld, hop, from, no_more, and_then, num_lit, of_opd, returns, alloc_all, pass_all, free_all, look_at, look_in_at, get, get_in, sets, lands_as, Array, usize, no, follows, follows_then, Is, shows, Lawful, uint_Makes, param, layout, layouts, number, ArrayAt, param_laws, of_field, array_laws, copy_shared, RattleType, owns, MutBor, plain, named_lft, mut_slice_of, types_at, type_at, MutSlice, Room, slice_val, mut_slice_vals, mut_slice_Tells, nothing, heard, only, owned, peeks, i64-field, i64-laws, i64-copy, calls_at, Ended, Lasts, lasts, triple_of, framed, says, Stays, stay_dropped, walk_of, ends_at, Goes-spent_slice}
use native.Mathlib.Omega.{arith}
use native.Mathlib.Nat.{mul-le-mul_right}
use lib.ListN.{drop as drop_list}
use borrow.Table.Elements.{length-take-le}
use Rattle.std.proofs.raw_atomic.Walks.{proved}
use Rattle.std.specs.List.{flat_map}
use Rattle.std.specs.Prelude.{IsSome}
use Rattle.std.specs.Simd.{first_chunks}
use Rattle.nd_shape_and_slice.specs.ShapesAndIndexOrders.{row_rank, HasCheckedSize}
use Rattle.nd_shape_and_slice.specs.DefaultAndFortranStrides.{c_strides}
use Rattle.nd_shape_and_slice.specs.contracts.dimension.ArrayIsizeStrideList.TheImpl as strides_impl
use Rattle.nd_shape_and_slice.specs.contracts.fixed_dimensions.Dim.{the_row as dim_row}
use Rattle.nd_shape_and_slice.specs.contracts.fixed_dimensions.DimAxisCount.TheImpl as count_impl
use Rattle.nd_shape_and_slice.specs.contracts.fixed_dimensions.DimDimension.TheImpl as dim_impl
use Rattle.nd_shape_and_slice.proofs.fixed_dimensions.Dim.TheLaws.{the_row_laws as dim_laws}
use Rattle.nd_region.specs.Region.{IsWhole, region_stored}
use Rattle.nd_region.specs.contracts.divided_mutable_borrow.Region.{the_row as region_row}
use Rattle.nd_region.proofs.divided_mutable_borrow.Region.TheLaws.{the_row_laws as region_laws}
use Rattle.nd_array_core.specs.ArrayMeaning.{shape_of, element_at, layout_strides, storage_of}
use Rattle.nd_elements.specs.ShapeAndElements.{inside}
use Rattle.nd_elements.specs.contracts.storage.RegionRepr.{the_row as storage_row}
use Rattle.nd_elements.proofs.storage.RegionRepr.TheLaws.{the_row_laws as storage_laws}
use Rattle.nd_elements.specs.contracts.storage.ViewMutReprData.TheImpl as view_impl
use Rattle.nd_array_core.proofs.base.array.ArrayBase.TheLaws.{the_row_laws as array_laws_of}
use Rattle.nd_array_core.specs.base.SliceAfterView.{rows_rewritten}
use Rattle.nd_array_core.specs.base.ViewsOfSlicesAndRows.{IsAllZero}
use Rattle.nd_array_core.proofs.lending.RowsLent.{first_lent, lends_first}
use Rattle.nd_array_core.proofs.lending.RowsView.{rows_counted, rows_held, rows_have}
use Rattle.nd_region.specs.contracts.divided_mutable_borrow.Region.from_rows as O
use Rattle.nd_region.proofs.divided_mutable_borrow.Region.from_rows.Met.{met as of_met}
use Rattle.nd_array_core.specs.contracts.base.from.rows_with_places as W
use Rattle.nd_array_core.proofs.base.from.rows_with_places.Met.{met as count_met}
use Rattle.nd_array_core.specs.contracts.base.from.region_on_two_axes as V
use Rattle.nd_array_core.proofs.base.from.region_on_two_axes.Met.{met as view_met}
use Rattle.nd_array_core.specs.contracts.base.from.ArrayViewMutIx2FromRefMutSliceArray.from as F
use Rattle.nd_array_core.specs.contracts.base.from.ArrayViewMutIx2FromRefMutSliceArray.from.Key.{name as #self}
use Rattle.nd_array_core.proofs.base.from.ArrayViewMutIx2FromRefMutSliceArray.from.Statement.{statement}
use Rattle.nd_array_core.proofs.base.from.ArrayViewMutIx2FromRefMutSliceArray.from.Code as code

pub from_spec : {M : Type 1} → statement M
from_spec 𝓤 𝓛 𝓜 𝓡 wired A n lA fits =
    let H = 𝓛.H in
    let inst : Args = layouts (a_type ∷ a_number ∷ []) (A, (number n, tt)) in
    let fn : Fn = inst_fn inst code.function in
    let En : Ended = F.ended A (number n) in
    let R : RattleType = param 0 A in
    let Row : RattleType = ArrayAt R (param 1 (number n)) in
    let hs : Stays En.signature.params En.kept = (stay_dropped (mut_slice_of (0 ∷ []) tt (plain (λ _. Row))) no, tt) in
    let O-ended : Ended = O.ended A (number n) in
    let V-ended : Ended = V.ended A in
    let 𝓣 = tables 𝓤 H 𝓜 𝓡 𝓡.env in
    let clauses = F.clauses A (number n) 𝓛 𝓜.mem 𝓡.returns in
    let Walk = walk_of 𝓛 En hs clauses in
    let W-triple = triple_of 𝓛 W.signature (W.spec 𝓛 𝓜.mem 𝓡.returns) in
    let O-triple = triple_of 𝓛 (O.signature A (number n)) (O.spec A (number n) 𝓛 𝓜.mem 𝓡.returns) in
    let V-triple = triple_of 𝓛 (V.signature A) (V.spec A 𝓛 𝓜.mem 𝓡.returns) in
    proved 𝓛 En hs clauses 𝓜 𝓡 (Goes-spent_slice 𝓛 3 (0 ∷ []) tt (plain (λ _. Row)), tt) (#self inst) fn (code.unfolded 𝓤 𝓛.H 𝓜 𝓡 wired (A, (number n, tt)))
    (λ κs. (mut_slice_vals, tt)) (λ κs. (mut_slice_Tells (named 0) κs.0 Row, tt)) (λ κs qs bounds a gh are.
    let κ : Lft = κs.0 in let κA : Lft = κs.1.0 in let κN : Lft = κs.1.1.0 in let q : Share = qs.0 in let qA : Share = qs.1.0 in let qN : Share = qs.1.1.0 in
    let b : ℕ = a.0.ref_ptr.0 in let o : ℕ = a.0.ref_ptr.1 in let γ : GName = a.0.ghost_name in let ys = a.0.now in
    let Rg : RattleType = region_row (named_lft 3 0 tt κs) R in
    let View : RattleType = type_at {n = 3} En.signature.result κs in
    let rows : MutBor (List Row.Denot) = a.0 in
    let len : ℕ = length ys in
    let ns : List ℕ = len ∷ n ∷ [] in
    let y : Walk.Ghost = ((κs, qs, bounds, a, (mut_slice_vals rows, tt)), gh) in
    let z₁ : W-triple.Ghost = ((tt, tt, tt, (len, (n, tt)), (vint w64 len ∷ [], (vint w64 n ∷ [], tt))), tt) in
    let All : ℕ → Type 0 = λ k. HasCheckedSize ns → k ≡ len in
    let None : ℕ → Type 0 = λ k. (HasCheckedSize ns → ⊥) → k ≡ 0 in
    let front : ℕ → List Row.Denot = λ k. take k ys in
    let back : ℕ → List Row.Denot = λ k. drop_list k ys in
    let lent : ℕ → GName → MutBor (List Row.Denot) = λ k δ. record { ref_ptr = (b, o); ghost_name = δ; now = (front k) } in
    let z₂ : ℕ → GName → O-triple.Ghost = λ k δ. ((κs, (q, (qA, (qN, tt))), bounds, (lent k δ, tt), (slice_val (b, o) k ∷ [], tt)), tt) in
    let Whole : ℕ → Rg.Denot → Type 0 = λ k x. IsWhole x (flat_map (λ row. row) (front k)) in
    let Held : Rg.Denot → View.Denot → Type 0 = λ x r. HasCheckedSize ns → (shape_of r ≡ ns) × (layout_strides r ≡ c_strides ns) × ((i : List ℕ) → element_at r i ≡ inside ns i (region_stored x (row_rank ns i))) in
    let Empty : Rg.Denot → View.Denot → Type 0 = λ x r. (HasCheckedSize ns → ⊥) → IsAllZero 2 r in
    let z₃ : Rg.Denot → Val → V-triple.Ghost = λ x v. (((κ, (κA, tt)), (q, (qA, tt)), (bounds.0, tt), (x, (len, (n, tt))), (v ∷ [], (vint w64 len ∷ [], (vint w64 n ∷ [], tt)))), tt) in
    let Has : Rg.Denot → Type 0 = λ x. HasCheckedSize ns → (p : ℕ) → p < len * n → IsSome (region_stored x p) in
    let regions : Lawful 𝓛 Rg = (region_laws (named_lft 3 0 tt κs) R (param_laws 0 A lA)).lawful 𝓛 in
    let views : Lawful 𝓛 View = (array_laws_of (storage_row Rg) (dim_row (number 2)) (Array i64-field.row 2) R (Array i64-field.row 2) (view_impl.ghosts R) (dim_impl.ghosts (number 2)) (count_impl.ghosts (number 2)) (strides_impl.ghosts (number 2)) (strides_impl.ghosts (number 2)) (storage_laws Rg (region_laws (named_lft 3 0 tt κs) R (param_laws 0 A lA))) (dim_laws (number 2) refl) (array_laws i64-field.row (of_field i64-field i64-laws refl (copy_shared i64-field i64-copy)) 2) (param_laws 0 A lA) (array_laws i64-field.row (of_field i64-field i64-laws refl (copy_shared i64-field i64-copy)) 2)).lawful 𝓛 in
    let rm = are.0.0.1 in
    qed 𝓛 (((‵ (flft κ q) ⊛ ‵ (flft κA qA) ⊛ ‵ (flft κN qN) ⊛ ‵ ftrue) ⊛ ‵ (owns (types_at En.signature.params κs) (rows, tt) (mut_slice_vals rows, tt)))
    ∷ (raw (fact 𝓤 (κA ⊑ A.lives)) ⊛ raw (fact 𝓤 (κN ⊑ [])) ⊛ raw (fact 𝓤 (n * size (layout A) < 2 ^ 63)) ⊛ ‵ ftrue) ∷ []) ∵
    move ! (1 ∷ []) $ split ! $ heard ! (κA ⊑ A.lives) (λ inA. split ! $ heard ! (κN ⊑ []) (λ inN. split ! $ heard ! (n * size (layout A) < 2 ^ 63) (λ sized. drop ! $
    split ! $ split3 ! $ move ! (2 ∷ []) $ split ! $ move ! (4 ∷ []) $ fsplit ! $ keep ! (0 ∷ 4 ∷ 5 ∷ 2 ∷ []) $
    -- [the rows; the lender's token; A's; N's]
    enter ! _ _ _ _ _ $ alloc_all ! (λ l. pass_all ! refl ((tt, (tt, (record { fits = rm.0 }, tt))), tt) $
    sets ! (of_opd ! (get_in ! (fld ! refl (stop !)) (sub ! 1 refl (whole !)))) refl (tt, record { fits = rm.0 }) $
    nothing ! $ nothing ! $ owned ! usize _ (uint_Makes 𝓛 w64) n _ (refl, fits.fits) $ join ! $ owned ! usize _ (uint_Makes 𝓛 w64) len _ (refl, rm.0) $ join ! $ nothing ! $ join ! $ join ! $
    use1 𝓛 (raw (W-triple.pre z₁)) (id⊢ 𝓤 _) $
    calls_at ! (framed 𝓤 H 𝓜 𝓣) W-triple (count_met 𝓤 𝓛 𝓜 𝓡 (code.calls-nd_array_core::base::from::rows_with_places 𝓡.env wired)) z₁
    (and_then ! (get ! refl) (and_then ! (num_lit ! fits) (no_more !))) (λ v.
    use1 𝓛 (later (some (λ (k : ℕ). (‵ ftrue ⊛ ‵ (usize.own_val k (v ∷ []))) ⊛
    some (λ (us : Lasts W.ended tt (len, (n, tt))). ‵ (lasts W.ended tt (len, (n, tt)) us) ⊛ raw (fact 𝓤 (All k)) ⊛ raw (fact 𝓤 (None k)) ⊛ raw (fact 𝓤 (k ≤ len)) ⊛ raw (fact 𝓤 (k * n < 2 ^ 63)))))) (id⊢ 𝓤 _) $ await ! tt $ pick ! (λ k.
    split ! $ move ! (1 ∷ []) $ pick ! (λ us. split ! $ drop ! $ split ! $ heard ! (All k) (λ all. split ! $ heard ! (None k) (λ none. split ! $ heard ! (k ≤ len) (λ few. heard ! (k * n < 2 ^ 63) (λ small.
    split ! $ drop ! $ peeks ! usize (Is usize) (shows 𝓛 usize) k (v ∷ []) (λ is. drop ! $
    lands_as ! (ap only is.0) refl (tt, record { fits = is.1 }) $
    sets ! (addr ! (from ! (fld ! refl (hop ! (look_in_at ! 1 (sub ! 0 refl (whole !))) (stop !))))) refl (tt, tt) $
    sets ! (agg ! (and_then ! (get ! refl) (and_then ! (get ! refl) (no_more !)))) refl (tt, (tt, (record { fits = is.1 }, tt))) $
    -- [the rows; the lender's token; A's; N's]
    let many : length (front k) ≡ k = length-take-le k ys few in
    let fit : len * (n * size (layout A)) < 2 ^ 63 = rm.1 in let cut : k * (n * size (layout A)) ≤ len * (n * size (layout A)) = mul-le-mul_right (n * size (layout A)) few in
    let small_room : k * (n * size (layout A)) < 2 ^ 63 = omega arith in
    let small' : length (front k) * n < 2 ^ 63 = subst (λ (j : ℕ). j * n < 2 ^ 63) (sym many) small in
    let roomy : Room Row (length (front k)) = subst (Room Row) (sym many) (is.1, small_room) in
    rewrite ! 0 (λ (zs : List Row.Denot). ‵ ((MutSlice (named 0) κ Row).own_val (record { ref_ptr = (b, o); ghost_name = γ; now = zs }) (mut_slice_vals rows))) (sym (take-append-drop k ys)) refl $
    use2 𝓛 (later (some (first_lent 𝓛 (named 0) κ q b o γ R tt n (front k) (back k)))) (lends_first 𝓛 (named 0) κ q b o γ R tt n (front k) (back k) roomy (mut_slice_vals rows)) $ await ! tt $ pick ! (λ δ. learn ! (λ long. split3 ! $
    rewrite ! 0 (λ (j : ℕ). ‵ ((MutSlice (named 0) κ Row).own_val (lent k δ) (slice_val (b, o) j ∷ []))) many refl $
    -- [the first rows; the token; what the rows follow; A's; N's]
    use0 𝓛 (raw (fact 𝓤 (length (front k) * n < 2 ^ 63))) (fact_i 𝓤 _ (emp 𝓤) small') $ use0 𝓛 (raw (fact 𝓤 (n * size (layout A) < 2 ^ 63))) (fact_i 𝓤 _ (emp 𝓤) sized) $ join ! $
    use0 𝓛 (raw (fact 𝓤 (κN ⊑ []))) (fact_i 𝓤 (κN ⊑ []) (emp 𝓤) inN) $ join ! $ use0 𝓛 (raw (fact 𝓤 (κA ⊑ A.lives))) (fact_i 𝓤 (κA ⊑ A.lives) (emp 𝓤) inA) $ join ! $
    nothing ! $ move ! (2 ∷ 0 ∷ []) $ join ! $ nothing ! $ move ! (6 ∷ 0 ∷ []) $ join ! $ move ! (5 ∷ 0 ∷ []) $ join ! $ move ! (3 ∷ 0 ∷ []) $ join ! $ join ! $ join ! $
    use1 𝓛 (raw (O-triple.pre (z₂ k δ))) (id⊢ 𝓤 _) $
    calls_at ! (framed 𝓤 H 𝓜 𝓣) O-triple (of_met 𝓤 𝓛 𝓜 𝓡 (code.calls-nd_region::divided_mutable_borrow::Region::from_rows 𝓡.env wired) A n lA fits) (z₂ k δ) (and_then ! (get ! refl) (no_more !)) (λ v₁.
    use1 𝓛 (later (some (λ (x : Rg.Denot). ((‵ (flft κ q) ⊛ ‵ (flft κA qA) ⊛ ‵ (flft κN qN) ⊛ ‵ ftrue) ⊛ ‵ (Rg.own_val x (v₁ ∷ []))) ⊛
    some (λ (us₁ : Lasts O-ended κs (lent k δ, tt)). ‵ (lasts O-ended κs (lent k δ, tt) us₁) ⊛ ‵ (follows (Array Row 0) (Array R 0) δ x.name (first_chunks n (length (front k)))) ⊛ raw (fact 𝓤 (Whole k x)))))) (id⊢ 𝓤 _) $ await ! tt $ pick ! (λ x.
    split ! $ move ! (1 ∷ []) $ pick ! (λ us₁. split ! $ drop ! $ split ! $ move ! (1 ∷ []) $ heard ! (Whole k x) (λ is_whole.
    -- [what the first rows follow; the tokens and the region; what the rows follow]
    move ! (2 ∷ 0 ∷ []) $ use2 𝓛 (‵ (follows (Array Row 0) (Array R 0) γ x.name (λ ws. first_chunks n (length (front k)) ws ++ back k)))
    (follows_then 𝓛 (Array Row 0) (Array Row 0) (Array R 0) (λ ws. ws ++ back k) (first_chunks n (length (front k))) γ δ x.name) $
    rewrite ! 0 (λ (j : ℕ). ‵ (follows (Array Row 0) (Array R 0) γ x.name (λ ws. first_chunks n j ws ++ back k))) many refl $
    move ! (1 ∷ []) $ split ! $ move ! (1 ∷ []) $ peeks ! Rg (Is Rg) (shows 𝓛 Rg) x (v₁ ∷ []) (λ typed. lands_as ! refl refl (regions.typed x (v₁ ∷ []) typed).0 $
    -- [the region; the tokens; what the rows follow]
    move ! (1 ∷ []) $ split3 ! $
    use0 𝓛 (raw (fact 𝓤 (Has x))) (fact_i 𝓤 (Has x) (emp 𝓤) (λ checked. rows_have ys k n x is_whole long (all checked))) $ use0 𝓛 (raw (fact 𝓤 (κA ⊑ A.lives))) (fact_i 𝓤 (κA ⊑ A.lives) (emp 𝓤) inA) $ join ! $
    nothing ! $ owned ! usize _ (uint_Makes 𝓛 w64) n _ (refl, fits.fits) $ join ! $ owned ! usize _ (uint_Makes 𝓛 w64) len _ (refl, rm.0) $ join ! $ move ! (5 ∷ 0 ∷ []) $ join ! $
    nothing ! $ move ! (4 ∷ 0 ∷ []) $ join ! $ move ! (3 ∷ 0 ∷ []) $ join ! $ join ! $ join ! $
    use1 𝓛 (raw (V-triple.pre (z₃ x v₁))) (id⊢ 𝓤 _) $
    calls_at ! (framed 𝓤 H 𝓜 𝓣) V-triple (view_met 𝓤 𝓛 𝓜 𝓡 (code.calls-nd_array_core::base::from::region_on_two_axes 𝓡.env wired) A lA) (z₃ x v₁)
    (and_then ! (get ! refl) (and_then ! (get ! refl) (and_then ! (num_lit ! fits) (no_more !)))) (λ v₂.
    use1 𝓛 (later (some (λ (r : View.Denot). ((‵ (flft κ q) ⊛ ‵ (flft κA qA) ⊛ ‵ ftrue) ⊛ ‵ (View.own_val r (v₂ ∷ []))) ⊛
    some (λ (us₂ : Lasts V-ended (κ, (κA, tt)) (x, (len, (n, tt)))). ‵ (lasts V-ended (κ, (κA, tt)) (x, (len, (n, tt))) us₂) ⊛ raw (fact 𝓤 (Held x r)) ⊛ raw (fact 𝓤 (Empty x r)) ⊛ raw (fact 𝓤 ((storage_of r).region ≡ x)))))) (id⊢ 𝓤 _) $ await ! tt $ pick ! (λ r.
    split ! $ move ! (1 ∷ []) $ pick ! (λ us₂. split ! $ drop ! $ split ! $ heard ! (Held x r) (λ held. split ! $ heard ! (Empty x r) (λ empty. heard ! ((storage_of r).region ≡ x) (λ region.
    -- [the tokens and the view; N's; what the rows follow]
    split ! $ move ! (1 ∷ []) $ peeks ! View (Is View) (shows 𝓛 View) r (v₂ ∷ []) (λ typed₂. lands_as ! refl refl (views.typed r (v₂ ∷ []) typed₂).0 $
    -- [the view; the tokens; N's; what the rows follow]
    rewrite ! 3 (λ (g : Rg.Denot). ‵ (follows (Array Row 0) (Array R 0) γ g.name (λ ws. rows_rewritten n k ys ws))) (sym region) refl $
    rewrite ! 3 (λ (j : ℕ). ‵ (follows (Array Row 0) (Array R 0) γ (storage_of r).region.name (λ ws. rows_rewritten n j ys ws))) (rows_counted ns (shape_of r) (n ∷ []) len k all none (λ checked. (held checked).0) (λ not. (empty not).0)) refl $
    returns ! (look_at ! 0 refl) $ free_all ! refl $
    move ! (1 ∷ []) $ split3 ! $ move ! (4 ∷ []) $ split ! $ keep ! (5 ∷ 2 ∷ 3 ∷ 0 ∷ 6 ∷ []) $
    suffices ! _ (ends_at 𝓛 En hs clauses y v₂ r (tt, tt) (tt, tt)) $
    -- [the view; the tokens; what the rows follow]
    nothing ! $ nothing ! $ fjoin ! $ join ! $ nothing ! $ move ! (4 ∷ 0 ∷ []) $ join ! $ move ! (3 ∷ 0 ∷ []) $ join ! $ move ! (2 ∷ 0 ∷ []) $ join ! $ join ! $ frame ! $
    says ! ((λ checked. ((held checked).0, (held checked).1, λ i. (held checked).2 i ∙ ap (inside ns i) (rows_held ys k n x is_whole (all checked) (row_rank ns i)))), empty) $ done !)))))))))))))))))))))))))))

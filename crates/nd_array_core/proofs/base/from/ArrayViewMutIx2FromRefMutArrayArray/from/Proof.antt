-- `from` lends the rows of an array that have places, makes a region of them, and a view of the region, tied to the rows. Assumes `Logic`.
use Rattle.nd_region.proofs.SeparationLogicImports.{◌≡◌, refl, sym, ap, subst, ◌∙◌, ℕ, ◌*◌, ◌<◌, ◌≤◌, ◌^◌, List, [], ◌∷◌, ◌++◌, length, take, take-append-drop, SProp, ent, emp, id⊢, Lft, Share, GName, ftrue, flft, Args, Fn, a_type, a_number, named, w64, inst_fn, Val, Fits, vint, ◌⊑◌, Lfts, AllOutlive, fact, fact_i, MachineTables, Running, tables, size, Model, Wired, WpFn, Ura, ‵, raw, ◌⊛◌, some, later, ◌$◌, ◌∵◌, !, qed, done, learn, move, keep, drop, use0, use1, use2, split, split3, join, fsplit, fjoin, pick, await, rewrite, suffices, frame, agg, enter, addr, stop, hop, from, no_more, and_then, num_lit, returns, alloc_all, pass_all, free_all, look_at, get, sets, lands_as, Logic, Array, usize, RefMutOf, no, follows, Is, shows, Lawful, uint_Makes, param, layout, layouts, number, ArrayAt, Laws, param_laws, of_field, array_laws, copy_shared, RattleType, owns, MutBor, MutRef, mut_vals, mut_Tells, plain, named_lft, types_at, type_at, MutSlice, Room, slice_val, nothing, heard, only, owned, peeks, i64-field, i64-laws, i64-copy, calls_at, Clauses, Ended, Lasts, lasts, triple_of, Contract, framed, says, Stays, stay_dropped, walk_of, ends_at, Goes-spent_ref}
use native.Mathlib.Omega.{arith}
use native.Mathlib.Nat.{mul-le-mul_right}
use lib.ListN.{drop as drop_list}
use borrow.Table.Elements.{length-take-le}
use Rattle.std.proofs.raw_atomic.Walks.{proved}
use Rattle.std.specs.List.{flat_map}
use Rattle.std.specs.Prelude.{IsSome}
use Rattle.std.specs.Simd.{first_chunks}
use Rattle.nd_shape_and_slice.specs.ShapesAndIndexOrders.{row_rank, HasCheckedSize}
use Rattle.nd_shape_and_slice.specs.DefaultAndFortranStrides.{c_strides}
use Rattle.nd_shape_and_slice.specs.contracts.dimension.ArrayIsizeStrideList.TheImpl as strides_impl
use Rattle.nd_shape_and_slice.specs.contracts.fixed_dimensions.Dim.{the_row as dim_row}
use Rattle.nd_shape_and_slice.specs.contracts.fixed_dimensions.DimAxisCount.TheImpl as count_impl
use Rattle.nd_shape_and_slice.specs.contracts.fixed_dimensions.DimDimension.TheImpl as dim_impl
use Rattle.nd_shape_and_slice.proofs.fixed_dimensions.Dim.TheLaws.{the_row_laws as dim_laws}
use Rattle.nd_region.specs.Region.{IsWhole, region_stored}
use Rattle.nd_region.specs.contracts.divided_mutable_borrow.Region.{the_row as region_row}
use Rattle.nd_region.proofs.divided_mutable_borrow.Region.TheLaws.{the_row_laws as region_laws}
use Rattle.nd_array_core.specs.ArrayMeaning.{meaning_of, memory_layout_of, shape_of, element_at, layout_strides, storage_of}
use Rattle.nd_elements.specs.ShapeAndElements.{inside}
use Rattle.nd_elements.specs.contracts.storage.RegionRepr.{the_row as storage_row}
use Rattle.nd_elements.proofs.storage.RegionRepr.TheLaws.{the_row_laws as storage_laws}
use Rattle.nd_elements.specs.contracts.storage.ViewMutReprData.TheImpl as view_impl
use Rattle.nd_array_core.proofs.base.array.ArrayBase.TheLaws.{the_row_laws as array_laws_of}
use Rattle.nd_array_core.specs.base.ViewsOfSlicesAndRows.{IsAllZero}
use Rattle.nd_array_core.proofs.lending.RowsLent.{of_array, lends_of_array}
use Rattle.nd_array_core.proofs.lending.RowsView.{rows_counted, rows_held, rows_have}
use Rattle.nd_region.specs.contracts.divided_mutable_borrow.Region.from_rows as O
use Rattle.nd_region.proofs.divided_mutable_borrow.Region.from_rows.Met.{met as of_met}
use Rattle.nd_array_core.specs.contracts.base.from.rows_with_places as W
use Rattle.nd_array_core.proofs.base.from.rows_with_places.Met.{met as count_met}
use Rattle.nd_array_core.specs.contracts.base.from.region_on_two_axes as V
use Rattle.nd_array_core.proofs.base.from.region_on_two_axes.Met.{met as view_met}
use Rattle.nd_array_core.specs.contracts.base.from.ArrayViewMutIx2FromRefMutArrayArray.from as F
use Rattle.nd_array_core.specs.contracts.base.from.ArrayViewMutIx2FromRefMutArrayArray.from.Key.{name as #self}
use Rattle.nd_array_core.proofs.base.from.ArrayViewMutIx2FromRefMutArrayArray.from.Statement.{statement}
use Rattle.nd_array_core.proofs.base.from.ArrayViewMutIx2FromRefMutArrayArray.from.Code as code

module _ (A : RattleType) (n m : ℕ) where
  abbrev inst : Args
  inst = layouts (a_type ∷ a_number ∷ a_number ∷ []) (A, (number n, (number m, tt)))

  abbrev fn : Fn
  fn = inst_fn inst code.function

  abbrev En : Ended
  En = F.ended A (number n) (number m)

  abbrev R : RattleType
  R = param 0 A

  abbrev Row : RattleType
  Row = ArrayAt R (param 1 (number n))

  abbrev Rows : RattleType
  Rows = ArrayAt Row (param 2 (number m))

  abbrev hs : Stays En.signature.params En.kept
  hs = (stay_dropped (RefMutOf (0 ∷ []) tt (plain (λ _. Rows)) (λ _. tt)) no, tt)

  abbrev O-ended : Ended
  O-ended = O.ended A (number n)

  abbrev V-ended : Ended
  V-ended = V.ended A

  module _ (κs : Lfts 4) where
    abbrev Rg : RattleType
    Rg = region_row (named_lft 4 0 tt κs) R

    abbrev View : RattleType
    View = type_at {n = 4} En.signature.result κs

  module _ {M : Type 1} {𝓤 : Ura M} (𝓛 : Logic 𝓤) (𝓜 : Model 𝓤 𝓛.H) (𝓡 : Running 𝓤 𝓛.H 𝓜) where
    open 𝓛 use {H}

    abbrev 𝓣 : MachineTables 𝓤 H 𝓜
    𝓣 = tables 𝓤 H 𝓜 𝓡 𝓡.env

    abbrev clauses : Clauses 𝓤 En
    clauses = F.clauses A (number n) (number m) 𝓛 𝓜.mem 𝓡.returns

    abbrev Walk : Contract 𝓤
    Walk = walk_of 𝓛 En hs clauses

    abbrev W-triple : Contract 𝓤
    W-triple = triple_of 𝓛 W.signature (W.spec 𝓛 𝓜.mem 𝓡.returns)

    abbrev O-triple : Contract 𝓤
    O-triple = triple_of 𝓛 (O.signature A (number n)) (O.spec A (number n) 𝓛 𝓜.mem 𝓡.returns)

    abbrev V-triple : Contract 𝓤
    V-triple = triple_of 𝓛 (V.signature A) (V.spec A 𝓛 𝓜.mem 𝓡.returns)

    module _ (κ κA κN κM : Lft) (q qA qN qM : Share) (bounds : AllOutlive 4 En.signature.outlives (κ, (κA, (κN, (κM, tt))))) (b o : ℕ) (γ : GName) (ys : List Row.Denot) where
      abbrev κs : Lfts 4
      κs = (κ, (κA, (κN, (κM, tt))))

      abbrev κs₁ : Lfts 3
      κs₁ = (κ, (κA, (κN, tt)))

      abbrev rows : MutBor (List Row.Denot)
      rows = record { ref_ptr = (b, o); ghost_name = γ; now = ys }

      abbrev ns : List ℕ
      ns = m ∷ n ∷ []

      abbrev xs : List R.Denot
      xs = flat_map (λ row. row) ys

      abbrev y : Walk.Ghost
      y = ((κs, (q, (qA, (qN, (qM, tt)))), bounds, (rows, tt), (mut_vals rows, tt)), tt)

      abbrev Post : Val → SProp 𝓤
      Post = Walk.post y

      abbrev z₁ : W-triple.Ghost
      z₁ = ((tt, tt, tt, (m, (n, tt)), (vint w64 m ∷ [], (vint w64 n ∷ [], tt))), tt)

      abbrev All : ℕ → Type 0
      All k = HasCheckedSize ns → k ≡ m

      abbrev None : ℕ → Type 0
      None k = (HasCheckedSize ns → ⊥) → k ≡ 0

      module _ (k : ℕ) where
        abbrev front : List Row.Denot
        front = take k ys

        abbrev back : List Row.Denot
        back = drop_list k ys

        abbrev lent : GName → MutBor (List Row.Denot)
        lent δ = record { ref_ptr = (b, o); ghost_name = δ; now = front }

        abbrev z₂ : GName → O-triple.Ghost
        z₂ δ = ((κs₁, (q, (qA, (qN, tt))), (bounds.0, tt), (lent δ, tt), (slice_val (b, o) k ∷ [], tt)), tt)

        abbrev Whole : (Rg κs).Denot → Type 0
        Whole x = IsWhole x (flat_map (λ row. row) front)

      module _ (x : (Rg κs).Denot) where
        abbrev Held : (View κs).Denot → Type 0
        Held r = HasCheckedSize ns → (shape_of r ≡ ns) × (layout_strides r ≡ c_strides ns) × ((i : List ℕ) → element_at r i ≡ inside ns i (region_stored x (row_rank ns i)))

        abbrev Empty : (View κs).Denot → Type 0
        Empty r = (HasCheckedSize ns → ⊥) → IsAllZero 2 r

        abbrev z₃ : Val → V-triple.Ghost
        z₃ v = (((κ, (κA, tt)), (q, (qA, tt)), (bounds.0, tt), (x, (m, (n, tt))), (v ∷ [], (vint w64 m ∷ [], (vint w64 n ∷ [], tt)))), tt)

        abbrev Has : Type 0
        Has = HasCheckedSize ns → (p : ℕ) → p < m * n → IsSome (region_stored x p)

      module _ (wired : Wired 𝓡.env code.code) (lA : Laws A) where
        abbrev regions : Lawful 𝓛 (Rg κs)
        regions = (region_laws (named_lft 4 0 tt κs) R (param_laws 0 A lA)).lawful 𝓛

        abbrev views : Lawful 𝓛 (View κs)
        views = (array_laws_of (storage_row (Rg κs)) (dim_row (number 2)) (Array i64-field.row 2) R (Array i64-field.row 2)
            (view_impl.ghosts R) (dim_impl.ghosts (number 2)) (count_impl.ghosts (number 2)) (strides_impl.ghosts (number 2)) (strides_impl.ghosts (number 2))
            (storage_laws (Rg κs) (region_laws (named_lft 4 0 tt κs) R (param_laws 0 A lA))) (dim_laws (number 2) refl)
            (array_laws i64-field.row (of_field i64-field i64-laws refl (copy_shared i64-field i64-copy)) 2) (param_laws 0 A lA)
            (array_laws i64-field.row (of_field i64-field i64-laws refl (copy_shared i64-field i64-copy)) 2)).lawful 𝓛

        abbrev tied : GName → (View κs).Denot → (View κs).Denot
        tied δ r = record { storage = record { region = r.storage.region; tie = record { marker = r.storage.tie.marker; value = δ } }; layout = r.layout; inside = r.inside; separated = r.separated }

        -- the view shows what it showed
        held_tied : (x : (Rg κs).Denot) (δ : GName) (r : (View κs).Denot) → Held x r → Held x (tied δ r)
        unfolding meaning_of memory_layout_of
        held_tied x δ r held = held

        empty_tied : (x : (Rg κs).Denot) (δ : GName) (r : (View κs).Denot) → Empty x r → Empty x (tied δ r)
        unfolding meaning_of memory_layout_of
        empty_tied x δ r empty = empty

        walk : Fits w64 n → Fits w64 m → ent 𝓤 (Walk.pre y) (WpFn 𝓤 H 𝓣.C 𝓣.Λ fn (Walk.args y) Post)
        walk fits fits' =
            qed 𝓛 (((‵ (flft κ q) ⊛ ‵ (flft κA qA) ⊛ (‵ (flft κN qN) ⊛ ‵ (flft κM qM) ⊛ ‵ ftrue)) ⊛ ‵ (owns (types_at En.signature.params κs) (rows, tt) (mut_vals rows, tt)))
            ∷ (raw (fact 𝓤 (κA ⊑ A.lives)) ⊛ raw (fact 𝓤 (κN ⊑ [])) ⊛ raw (fact 𝓤 (κM ⊑ [])) ⊛ raw (fact 𝓤 (m * (n * size (layout A)) < 2 ^ 63)) ⊛ raw (fact 𝓤 (n * size (layout A) < 2 ^ 63)) ⊛ ‵ ftrue) ∷ []) ∵
            move ! (1 ∷ []) $ split ! $ heard ! (κA ⊑ A.lives) (λ inA. split ! $ heard ! (κN ⊑ []) (λ inN. split ! $ heard ! (κM ⊑ []) (λ inM. split ! $ heard ! (m * (n * size (layout A)) < 2 ^ 63) (λ fit. split ! $ heard ! (n * size (layout A) < 2 ^ 63) (λ sized. drop ! $
            split ! $ split3 ! $ move ! (2 ∷ []) $ split3 ! $ move ! (5 ∷ []) $ fsplit ! $ keep ! (0 ∷ 5 ∷ 6 ∷ 2 ∷ 3 ∷ []) $
            -- [the rows; the lender's token; A's; N's; M's]
            enter ! _ _ _ _ _ $ alloc_all ! (λ l. pass_all ! refl ((tt, tt), tt) $
            nothing ! $ nothing ! $ owned ! usize _ (uint_Makes 𝓛 w64) n _ (refl, fits.fits) $ join ! $ owned ! usize _ (uint_Makes 𝓛 w64) m _ (refl, fits'.fits) $ join ! $ nothing ! $ join ! $ join ! $
            use1 𝓛 (raw (W-triple.pre z₁)) (id⊢ 𝓤 _) $
            calls_at ! (framed 𝓤 H 𝓜 𝓣) W-triple (count_met 𝓤 𝓛 𝓜 𝓡 (code.calls-nd_array_core::base::from::rows_with_places 𝓡.env wired)) z₁
            (and_then ! (num_lit ! fits') (and_then ! (num_lit ! fits) (no_more !))) (λ v.
            use1 𝓛 (later (some (λ (k : ℕ). (‵ ftrue ⊛ ‵ (usize.own_val k (v ∷ []))) ⊛
            some (λ (us : Lasts W.ended tt (m, (n, tt))). ‵ (lasts W.ended tt (m, (n, tt)) us) ⊛ raw (fact 𝓤 (All k)) ⊛ raw (fact 𝓤 (None k)) ⊛ raw (fact 𝓤 (k ≤ m)) ⊛ raw (fact 𝓤 (k * n < 2 ^ 63)))))) (id⊢ 𝓤 _) $ await ! tt $ pick ! (λ k.
            split ! $ move ! (1 ∷ []) $ pick ! (λ us. split ! $ drop ! $ split ! $ heard ! (All k) (λ all. split ! $ heard ! (None k) (λ none. split ! $ heard ! (k ≤ m) (λ few. heard ! (k * n < 2 ^ 63) (λ small.
            split ! $ drop ! $ peeks ! usize (Is usize) (shows 𝓛 usize) k (v ∷ []) (λ is. drop ! $
            lands_as ! (ap only is.0) refl (tt, record { fits = is.1 }) $
            sets ! (addr ! (from ! (hop ! (look_at ! 1 refl) (stop !)))) refl (tt, tt) $
            sets ! (agg ! (and_then ! (get ! refl) (and_then ! (get ! refl) (no_more !)))) refl (tt, (tt, (record { fits = is.1 }, tt))) $
            -- [the rows; the lender's token; A's; N's; M's]
            let cut : k * (n * size (layout A)) ≤ m * (n * size (layout A)) = mul-le-mul_right (n * size (layout A)) few in
            let small_room : k * (n * size (layout A)) < 2 ^ 63 = omega (arith, cut, fit) in
            let rows_are : length (front k ++ back k) ≡ m → length ys ≡ m = λ e. ap length (sym (take-append-drop k ys)) ∙ e in
            let taken : length (front k ++ back k) ≡ m → length (front k) ≡ k = λ e. length-take-le k ys (subst (λ (j : ℕ). k ≤ j) (sym (rows_are e)) few) in
            rewrite ! 0 (λ (zs : List Row.Denot). ‵ ((MutRef (named 0) κ Rows).own_val (record { ref_ptr = (b, o); ghost_name = γ; now = zs }) (mut_vals rows))) (sym (take-append-drop k ys)) refl $
            use2 𝓛 (later (some (of_array 𝓛 (named 0) κ q b o γ R tt n (front k) (back k) m)))
            (lends_of_array 𝓛 (named 0) κ q b o γ R tt n (front k) (back k) m (λ e. subst (Room Row) (sym (taken e)) (is.1, small_room)) (mut_vals rows)) $ await ! tt $ pick ! (λ δ. learn ! (λ as_many. learn ! (λ long. split3 ! $
            let whole : length ys ≡ m = rows_are as_many in
            let many : length (front k) ≡ k = taken as_many in
            let small' : length (front k) * n < 2 ^ 63 = subst (λ (j : ℕ). j * n < 2 ^ 63) (sym many) small in
            rewrite ! 0 (λ (j : ℕ). ‵ ((MutSlice (named 0) κ Row).own_val (lent k δ) (slice_val (b, o) j ∷ []))) many refl $
            -- [the first rows; the token; what the rows follow; A's; N's; M's]
            use0 𝓛 (raw (fact 𝓤 (length (front k) * n < 2 ^ 63))) (fact_i 𝓤 _ (emp 𝓤) small') $ use0 𝓛 (raw (fact 𝓤 (n * size (layout A) < 2 ^ 63))) (fact_i 𝓤 _ (emp 𝓤) sized) $ join ! $
            use0 𝓛 (raw (fact 𝓤 (κN ⊑ []))) (fact_i 𝓤 (κN ⊑ []) (emp 𝓤) inN) $ join ! $ use0 𝓛 (raw (fact 𝓤 (κA ⊑ A.lives))) (fact_i 𝓤 (κA ⊑ A.lives) (emp 𝓤) inA) $ join ! $
            nothing ! $ move ! (2 ∷ 0 ∷ []) $ join ! $ nothing ! $ move ! (6 ∷ 0 ∷ []) $ join ! $ move ! (5 ∷ 0 ∷ []) $ join ! $ move ! (3 ∷ 0 ∷ []) $ join ! $ join ! $ join ! $
            use1 𝓛 (raw (O-triple.pre (z₂ k δ))) (id⊢ 𝓤 _) $
            calls_at ! (framed 𝓤 H 𝓜 𝓣) O-triple (of_met 𝓤 𝓛 𝓜 𝓡 (code.calls-nd_region::divided_mutable_borrow::Region::from_rows 𝓡.env wired) A n lA fits) (z₂ k δ) (and_then ! (get ! refl) (no_more !)) (λ v₁.
            use1 𝓛 (later (some (λ (x : (Rg κs).Denot). ((‵ (flft κ q) ⊛ ‵ (flft κA qA) ⊛ ‵ (flft κN qN) ⊛ ‵ ftrue) ⊛ ‵ ((Rg κs).own_val x (v₁ ∷ []))) ⊛
            some (λ (us₁ : Lasts O-ended κs₁ (lent k δ, tt)). ‵ (lasts O-ended κs₁ (lent k δ, tt) us₁) ⊛ ‵ (follows (Array Row 0) (Array R 0) δ x.name (first_chunks n (length (front k)))) ⊛ raw (fact 𝓤 (Whole k x)))))) (id⊢ 𝓤 _) $ await ! tt $ pick ! (λ x.
            split ! $ move ! (1 ∷ []) $ pick ! (λ us₁. split ! $ drop ! $ split ! $ drop ! $ heard ! (Whole k x) (λ is_whole.
            -- [the tokens and the region; what the rows follow; M's]
            split ! $ move ! (1 ∷ []) $ peeks ! (Rg κs) (Is (Rg κs)) (shows 𝓛 (Rg κs)) x (v₁ ∷ []) (λ typed. lands_as ! refl refl (regions.typed x (v₁ ∷ []) typed).0 $
            -- [the region; the tokens; what the rows follow; M's]
            move ! (1 ∷ []) $ split3 ! $
            use0 𝓛 (raw (fact 𝓤 (Has x))) (fact_i 𝓤 (Has x) (emp 𝓤) (λ checked. subst (λ (j : ℕ). (p : ℕ) → p < j * n → IsSome (region_stored x p)) whole (rows_have ys k n x is_whole long (all checked ∙ sym whole)))) $
            use0 𝓛 (raw (fact 𝓤 (κA ⊑ A.lives))) (fact_i 𝓤 (κA ⊑ A.lives) (emp 𝓤) inA) $ join ! $
            nothing ! $ owned ! usize _ (uint_Makes 𝓛 w64) n _ (refl, fits.fits) $ join ! $ owned ! usize _ (uint_Makes 𝓛 w64) m _ (refl, fits'.fits) $ join ! $ move ! (5 ∷ 0 ∷ []) $ join ! $
            nothing ! $ move ! (4 ∷ 0 ∷ []) $ join ! $ move ! (3 ∷ 0 ∷ []) $ join ! $ join ! $ join ! $
            use1 𝓛 (raw (V-triple.pre (z₃ x v₁))) (id⊢ 𝓤 _) $
            calls_at ! (framed 𝓤 H 𝓜 𝓣) V-triple (view_met 𝓤 𝓛 𝓜 𝓡 (code.calls-nd_array_core::base::from::region_on_two_axes 𝓡.env wired) A lA) (z₃ x v₁)
            (and_then ! (get ! refl) (and_then ! (num_lit ! fits') (and_then ! (num_lit ! fits) (no_more !)))) (λ v₂.
            use1 𝓛 (later (some (λ (r : (View κs).Denot). ((‵ (flft κ q) ⊛ ‵ (flft κA qA) ⊛ ‵ ftrue) ⊛ ‵ ((View κs).own_val r (v₂ ∷ []))) ⊛
            some (λ (us₂ : Lasts V-ended (κ, (κA, tt)) (x, (m, (n, tt)))). ‵ (lasts V-ended (κ, (κA, tt)) (x, (m, (n, tt))) us₂) ⊛ raw (fact 𝓤 (Held x r)) ⊛ raw (fact 𝓤 (Empty x r)) ⊛ raw (fact 𝓤 ((storage_of r).region ≡ x)))))) (id⊢ 𝓤 _) $ await ! tt $ pick ! (λ r.
            split ! $ move ! (1 ∷ []) $ pick ! (λ us₂. split ! $ drop ! $ split ! $ heard ! (Held x r) (λ held. split ! $ heard ! (Empty x r) (λ empty. drop ! $
            let held' = held_tied x δ r held in let empty' = empty_tied x δ r empty in
            -- [the tokens and the view; N's; what the rows follow; M's]
            split ! $ move ! (1 ∷ []) $ peeks ! (View κs) (Is (View κs)) (shows 𝓛 (View κs)) r (v₂ ∷ []) (λ typed₂. lands_as ! refl refl (views.typed r (v₂ ∷ []) typed₂).0 $
            -- [the view; the tokens; N's; what the rows follow; M's]
            rewrite ! 3 (λ (j : ℕ). ‵ (follows Rows (Array Row 0) γ δ (λ ws. ws ++ drop_list j ys))) (rows_counted ns (shape_of (tied δ r)) (n ∷ []) m k all none (λ checked. (held' checked).0) (λ not. (empty' not).0)) refl $
            use1 𝓛 (‵ ((View κs).own_val (tied δ r) (v₂ ∷ []))) (id⊢ 𝓤 _) $
            returns ! (look_at ! 0 refl) $ free_all ! refl $
            move ! (1 ∷ []) $ split3 ! $ move ! (4 ∷ []) $ split ! $ keep ! (5 ∷ 2 ∷ 3 ∷ 0 ∷ 7 ∷ 6 ∷ []) $
            suffices ! _ (ends_at 𝓛 En hs clauses y v₂ (tied δ r) (tt, tt) (tt, tt)) $
            -- [the view; the lender's token; A's; N's; M's; what the rows follow]
            nothing ! $ nothing ! $ fjoin ! $ join ! $ nothing ! $ move ! (5 ∷ 0 ∷ []) $ join ! $ move ! (4 ∷ 0 ∷ []) $ join ! $ move ! (3 ∷ 0 ∷ []) $ join ! $ move ! (2 ∷ 0 ∷ []) $ join ! $ join ! $ frame ! $
            says ! ((λ checked. ((held' checked).0, (held' checked).1, λ i. (held' checked).2 i ∙ ap (inside ns i) (rows_held ys k n x is_whole (all checked ∙ sym whole) (row_rank ns i)))), empty') $ done !))))))))))))))))))))))))))))

pub from_spec : {M : Type 1} → statement M
from_spec 𝓤 𝓛 𝓜 𝓡 wired A n m lA fits fits' =
    proved 𝓛 (En A n m) (hs A n m) (clauses A n m 𝓛 𝓜 𝓡) 𝓜 𝓡 (Goes-spent_ref 𝓛 4 (0 ∷ []) tt (plain (λ _. Rows A n m)), tt) (#self (inst A n m)) (fn A n m) (code.unfolded 𝓤 𝓛.H 𝓜 𝓡 wired (A, (number n, (number m, tt))))
    (λ κs. (mut_vals, tt)) (λ κs. (mut_Tells (named 0) κs.0 (Rows A n m), tt)) (λ κs qs bounds a g are.
    walk A n m 𝓛 𝓜 𝓡 κs.0 κs.1.0 κs.1.1.0 κs.1.1.1.0 qs.0 qs.1.0 qs.1.1.0 qs.1.1.1.0 bounds a.0.ref_ptr.0 a.0.ref_ptr.1 a.0.ghost_name a.0.now wired lA fits fits')

-- `from_shape` decides by the slice's length alone. Where the shape is refused the slice keeps its own name's value; else it follows
-- the region that the view is made of. Assumes `Logic`.
use Rattle.nd_region.proofs.SeparationLogicImports.{◌≡◌, refl, sym, ap, subst, ◌∙◌, ℕ, true, List, [], ◌∷◌, T as T', lit<, length, SProp, ent, sep, emp, id⊢, coded_list, Lft, Share, ftrue, flft, fobs, fres, Args, Dict, Fn, a_type, dcons, dnil, w64, inst_fn, Val, vint, vcons, vnil, has_ty, WT, ◌⊑◌, Lfts, AllOutlive, fact, fact_i, MachineTables, Running, tables, Model, Wired, Wp, WpFn, Env, after_seq, at_return, Ura, Logic, sem, Post as After, by, any_q, at_ret, group, ‵, raw, ◌⊛◌, some, later, ◌$◌, ◌∵◌, !, qed, done, move, keep, drop, use0, use1, split, split3, join, fsplit, fsplit3, fjoin, feq_i, fpack, pick, await, rewrite, suffices, frame, live, vrt, in_variant, whole, sub, agg, enter, exec, first, switches_on, addr, stop, fld, hop, from, lit, no_more, and_then, of_opd, returns, alloc_all, pass_all, free_all, look_at, look_in_at, get, get_in, get_tag, sets, sets_last, lands_as, env, Array, usize, shape, form_of, in_a_row, tagged_with, no, follows, follows_by, heres_id, Is, shows, Lawful, uint_Makes, param, copied, bounded, layout, IsCopy, Laws, param_laws, copied_laws, one_value, RattleType, Valss, owns, MutBor, plain, named_lft, mut_slice_of, types_at, Room, mut_slice_vals, nothing, heard, owned, peeks, calls_at, Clauses, Ended, Lasts, lasts, triple_of, Contract, framed, Stays, stay_dropped, walk_of, ends_at, Goes-dropped, Goes-spent_slice}
use mir.Syntax.{Body}
use denote.Triple.Entry.{Args as Args'}
use Rattle.std.proofs.raw_atomic.Walks.{proved_at}
use Rattle.std.proofs.VecSteps.Shapes.{after, head, arm_body}
use Rattle.std.specs.Prelude.{Result, Ok, Err, Some, None, IfOk, IfErr, slice_get}
use Rattle.std.specs.declared.clone.Clone as clone
use Rattle.std.specs.contracts.result.Result.{the_row as result_row}
use Rattle.std.specs.contracts.clone.Clone.TheBound as clone_bound
use Rattle.nd_shape_and_slice.specs.contracts.dimension.Dimension.TheBound as dimension_bound
use Rattle.nd_shape_and_slice.specs.contracts.dimension.AxisCount.TheBound as axis_bound
use Rattle.nd_shape_and_slice.specs.contracts.dimension.StrideList.TheBound as stride_bound
use Rattle.nd_shape_and_slice.specs.contracts.shape_builder.IntoStrideShape.TheBound as shape_bound
use Rattle.nd_shape_and_slice.specs.declared.dimension.Dimension as dimension
use Rattle.nd_shape_and_slice.specs.declared.dimension.AxisCount as axis_count
use Rattle.nd_shape_and_slice.specs.declared.dimension.StrideList as stride_list
use Rattle.nd_shape_and_slice.specs.declared.shape_builder.IntoStrideShape as given_shape
use Rattle.nd_shape_and_slice.specs.contracts.errors.ShapeError.{the_row as error_row}
use Rattle.nd_shape_and_slice.proofs.errors.ShapeError.TheLaws.{the_row_laws as error_laws}
use Rattle.nd_shape_and_slice.specs.PlacesAndOverlaps.{place_of}
use Rattle.nd_layout.specs.GivenStrides.{given_place, given_strides, offset_given}
use Rattle.nd_layout.specs.ConstructorRefusals.{slice_mut_refusal}
use Rattle.nd_layout.specs.contracts.layout.Layout.{the_row as layout_row}
use Rattle.nd_layout.proofs.layout.Layout.TheLaws.{the_row_laws as layout_laws}
use Rattle.nd_region.specs.Region.{region_stored, IsWhole}
use Rattle.nd_region.specs.contracts.divided_mutable_borrow.Region.{the_row as region_row}
use Rattle.nd_region.proofs.divided_mutable_borrow.Region.TheLaws.{the_row_laws as region_laws}
use Rattle.nd_region.specs.contracts.divided_mutable_borrow.Region.from_slice as O
use Rattle.nd_region.proofs.divided_mutable_borrow.Region.from_slice.Met.{met as of_met}
use Rattle.nd_array_core.specs.ArrayMeaning.{shape_of, element_at, layout_strides, layout_offset, storage_of}
use Rattle.nd_elements.specs.ShapeAndElements.{inside}
use Rattle.nd_elements.specs.StoragePlaces.{stored_at}
use Rattle.nd_array_core.specs.base.ConstructorErrorsAndLayout.{IsLaidOut}
use Rattle.nd_layout.specs.LayoutStepsOfCalls.{as_placement, placement_of}
use Rattle.nd_array_core.specs.scoped.ViewTasks.{LiesBy}
use Rattle.nd_array_core.specs.scoped.SlicesLentAsViews.{GivenShape, meant_by}
use Rattle.nd_array_core.specs.contracts.base.from_shape.GivenIn as given_in
use Rattle.nd_array_core.specs.declared.base.from_shape.GivenIn.TheVariants.{SliceMut}
use Rattle.nd_elements.specs.contracts.storage.RegionRepr.{the_row as storage_row}
use Rattle.nd_elements.proofs.storage.RegionRepr.TheLaws.{the_row_laws as storage_laws}
use Rattle.nd_elements.specs.contracts.storage.ViewMutReprData.TheImpl as view_impl
use Rattle.nd_array_core.specs.contracts.base.array.ArrayBase.{the_row as array_row}
use Rattle.nd_array_core.proofs.base.array.ArrayBase.TheLaws.{the_row_laws as array_laws}
use Rattle.nd_array_core.proofs.lending.ResultOwnership.{ok_typed, err_typed, ok_of, err_of, result_parts}
use Rattle.nd_array_core.proofs.lending.SevenContractClauses.{says_seven}
use Rattle.nd_array_core.proofs.lending.SliceView.{region_sound, element_given, held_of_slice}
use Rattle.nd_array_core.specs.contracts.base.from_shape.laid_out as W
use Rattle.nd_array_core.proofs.base.from_shape.laid_out.Met.{met as laid_met}
use Rattle.nd_array_core.specs.contracts.base.from_shape.region_laid_out as V
use Rattle.nd_array_core.proofs.base.from_shape.region_laid_out.Met.{met as view_met}
use Rattle.nd_array_core.specs.contracts.base.from_shape.ArrayViewMut+A+D.from_shape as F
use Rattle.nd_array_core.specs.contracts.base.from_shape.ArrayViewMut+A+D.from_shape.Key.{name as #self}
use Rattle.nd_array_core.proofs.base.from_shape.ArrayViewMut+A+D.from_shape.Statement.{statement}
use Rattle.nd_array_core.proofs.base.from_shape.ArrayViewMut+A+D.from_shape.Code as code

-- a choice owns nothing
given_made : {M : Type 1} {𝓤 : Ura M} (𝓛 : Logic 𝓤) → ent 𝓤 (emp 𝓤) (sem 𝓛 (given_in.the_row.own_val SliceMut (live 2 vnil ∷ [])))
given_made 𝓛 =
    qed 𝓛 [] ∵ nothing ! $ feq_i ! (List Val) [] [] refl $ fjoin ! $ fpack ! (Valss []) (in_a_row [] (owns [] tt) []) tt $
    feq_i ! (List Val) (live 2 vnil ∷ []) (live 2 vnil ∷ []) refl $ fjoin ! $
    fpack ! (List Val) (tagged_with (form_of (shape given_in.the_type)) (form_of (shape given_in.the_type)).payload (given_in.the_type.to SliceMut) (live 2 vnil ∷ [])) [] $ done !

module _ (A D T S : RattleType) (d : dimension.Ghosts D.Denot T.Denot) (dd : Dict) (n : axis_count.Ghosts D.Denot) (nd : Dict) (k : clone.Ghosts D.Denot) (kd : Dict) (t : stride_list.Ghosts T.Denot) (td : Dict) (j : clone.Ghosts T.Denot) (jd : Dict)
    (h : given_shape.Ghosts S.Denot D.Denot T.Denot) (hd : Dict) where
  abbrev inst : Args
  inst = bounded (a_type ∷ a_type ∷ a_type ∷ a_type ∷ []) (A, (D, (T, (S, tt)))) (dcons dd (dcons nd (dcons kd (dcons td (dcons jd (dcons hd dnil))))))

  abbrev fn : Fn
  fn = inst_fn inst code.function

  abbrev En : Ended
  En = F.ended A D T S d dd n nd k kd t td j jd h hd

  abbrev AR : RattleType
  AR = param 0 A

  abbrev SR : RattleType
  SR = param 3 S

  abbrev hs : Stays En.signature.params En.kept
  hs = (stay_dropped (plain (λ _. SR)) no, (stay_dropped (mut_slice_of (0 ∷ []) tt (plain (λ _. AR))) no, tt))

  abbrev Lay : RattleType
  Lay = layout_row (copied 1 D) (copied 2 T) (copied 2 T) d n t t

  abbrev Laid : RattleType
  Laid = result_row Lay error_row

  abbrev W-ended : Ended
  W-ended = W.ended D S T d dd n nd k kd t td j jd h hd

  abbrev O-ended : Ended
  O-ended = O.ended A

  abbrev V-ended : Ended
  V-ended = V.ended A D T d dd n nd k kd t td j jd

  module _ (κs : Lfts 5) where
    abbrev Rg : RattleType
    Rg = region_row (named_lft 5 0 tt κs) AR

    abbrev View : RattleType
    View = array_row (storage_row Rg) (copied 1 D) (copied 2 T) AR (copied 2 T) (view_impl.ghosts AR) d n t t

    abbrev Out : RattleType
    Out = result_row View error_row

  module _ {M : Type 1} {𝓤 : Ura M} (𝓛 : Logic 𝓤) (𝓜 : Model 𝓤 𝓛.H) (𝓡 : Running 𝓤 𝓛.H 𝓜) where
    open 𝓛 use {H}

    abbrev 𝓣 : MachineTables 𝓤 H 𝓜
    𝓣 = tables 𝓤 H 𝓜 𝓡 𝓡.env

    abbrev clauses : Clauses 𝓤 En
    clauses = F.clauses A D T S d dd n nd k kd t td j jd h hd 𝓛 𝓜.mem 𝓡.returns

    abbrev Walk : Contract 𝓤
    Walk = walk_of 𝓛 En hs clauses

    abbrev W-triple : Contract 𝓤
    W-triple = triple_of 𝓛 (W.signature D S T d dd n nd k kd t td j jd h hd) (W.spec D S T d dd n nd k kd t td j jd h hd 𝓛 𝓜.mem 𝓡.returns)

    abbrev O-triple : Contract 𝓤
    O-triple = triple_of 𝓛 (O.signature A) (O.spec A 𝓛 𝓜.mem 𝓡.returns)

    abbrev V-triple : Contract 𝓤
    V-triple = triple_of 𝓛 (V.signature A D T d dd n nd k kd t td j jd) (V.spec A D T d dd n nd k kd t td j jd 𝓛 𝓜.mem 𝓡.returns)

    module _ (κ κA κD κT κS : Lft) (q qA qD qT qS : Share) (bounds : AllOutlive 5 En.signature.outlives (κ, (κA, (κD, (κT, (κS, tt))))))
        (s : S.Denot) (w : Val) (xs : MutBor (List A.Denot)) where
      abbrev κs : Lfts 5
      κs = (κ, (κA, (κD, (κT, (κS, tt)))))

      abbrev given : GivenShape
      given = meant_by h s

      abbrev len : ℕ
      len = length xs.now

      abbrev vs : List Val
      vs = mut_slice_vals xs

      abbrev y : Walk.Ghost
      y = ((κs, (q, (qA, (qD, (qT, (qS, tt))))), bounds, (s, (xs, tt)), (w ∷ [], (vs, tt))), tt)

      abbrev Refused : Result Lay.Denot error_row.Denot → Type 0
      Refused r = IfErr r (λ e. slice_mut_refusal given.0 given.2 len ≡ Some e)

      abbrev Accepted : Result Lay.Denot error_row.Denot → Type 0
      Accepted r = IfOk r (λ _. slice_mut_refusal given.0 given.2 len ≡ None)

      abbrev Lies : Result Lay.Denot error_row.Denot → Type 0
      Lies r = IfOk r (λ lay. IsLaidOut given.0 given.1 given.2 true len (placement_of lay))

      -- the tokens that the decision is lent, and those that it is not
      abbrev Decides : SProp 𝓤
      Decides = sep 𝓤 (sem 𝓛 (flft κD qD)) (sep 𝓤 (sem 𝓛 (flft κS qS)) (sep 𝓤 (sem 𝓛 (flft κT qT)) (emp 𝓤)))

      -- and all of them
      abbrev Alive : SProp 𝓤
      Alive = sep 𝓤 (sem 𝓛 (flft κ q)) (sep 𝓤 (sem 𝓛 (flft κA qA)) (sep 𝓤 (sem 𝓛 (flft κD qD)) (sep 𝓤 (sem 𝓛 (flft κT qT)) (sep 𝓤 (sem 𝓛 (flft κS qS)) (emp 𝓤)))))

      decided : ent 𝓤 (sep 𝓤 Decides (sep 𝓤 (sem 𝓛 (flft κ q)) (sem 𝓛 (flft κA qA)))) Alive
      decided =
          qed 𝓛 ((‵ (flft κD qD) ⊛ ‵ (flft κS qS) ⊛ (‵ (flft κT qT) ⊛ ‵ ftrue)) ∷ ‵ (flft κ q) ∷ ‵ (flft κA qA) ∷ []) ∵
          split3 ! $ move ! (2 ∷ []) $ split ! $
          -- [T's; nothing; D's; S's; the token; A's]
          move ! (3 ∷ 1 ∷ []) $ join ! $ move ! (1 ∷ 0 ∷ []) $ join ! $ move ! (1 ∷ 0 ∷ []) $ join ! $
          move ! (2 ∷ 0 ∷ []) $ join ! $ move ! (1 ∷ 0 ∷ []) $ join ! $ done !

      -- the tokens that making the view is lent
      abbrev Makes : SProp 𝓤
      Makes = sep 𝓤 (sem 𝓛 (flft κ q)) (sep 𝓤 (sem 𝓛 (flft κA qA)) (sep 𝓤 (sem 𝓛 (flft κD qD)) (sep 𝓤 (sem 𝓛 (flft κT qT)) (emp 𝓤))))

      made : ent 𝓤 (sep 𝓤 Makes (sem 𝓛 (flft κS qS))) Alive
      made =
          qed 𝓛 ((‵ (flft κ q) ⊛ ‵ (flft κA qA) ⊛ (‵ (flft κD qD) ⊛ ‵ (flft κT qT) ⊛ ‵ ftrue)) ∷ ‵ (flft κS qS) ∷ []) ∵
          split3 ! $ move ! (2 ∷ []) $ split3 ! $
          -- [D's; T's; nothing; the token; A's; S's]
          move ! (5 ∷ 2 ∷ []) $ join ! $ move ! (2 ∷ 0 ∷ []) $ join ! $ move ! (1 ∷ 0 ∷ []) $ join ! $
          move ! (2 ∷ 0 ∷ []) $ join ! $ move ! (1 ∷ 0 ∷ []) $ join ! $ done !

      apart : ent 𝓤 Alive (sep 𝓤 Makes (sem 𝓛 (flft κS qS)))
      apart =
          qed 𝓛 ((‵ (flft κ q) ⊛ ‵ (flft κA qA) ⊛ (‵ (flft κD qD) ⊛ ‵ (flft κT qT) ⊛ (‵ (flft κS qS) ⊛ ‵ ftrue))) ∷ []) ∵
          split3 ! $ move ! (2 ∷ []) $ split3 ! $ move ! (2 ∷ []) $ split ! $
          -- [S's; nothing; D's; T's; the token; A's]
          move ! (3 ∷ 1 ∷ []) $ join ! $ move ! (2 ∷ 0 ∷ []) $ join ! $ move ! (3 ∷ 0 ∷ []) $ join ! $
          move ! (2 ∷ 0 ∷ []) $ join ! $ join ! $ done !

      refused_end : (e : error_row.Denot) (u : Val) → Refused (Err e) → ent 𝓤 (sep 𝓤 (sem 𝓛 (error_row.own_val e (u ∷ []))) (sep 𝓤 Alive (sem 𝓛 (fobs xs.ghost_name ((Array AR 0).coded.code xs.now))))) (Walk.post y (live 1 (vcons u vnil)))
      unfolding follows_by
      refused_end e u refused =
          qed 𝓛 (‵ (error_row.own_val e (u ∷ [])) ∷ raw Alive ∷ ‵ (fobs xs.ghost_name ((Array AR 0).coded.code xs.now)) ∷ []) ∵
          use1 𝓛 (‵ ((Out κs).own_val (Err e) (live 1 (vcons u vnil) ∷ []))) (err_of 𝓛 (View κs) error_row e u) $
          suffices ! _ (ends_at 𝓛 En hs clauses y (live 1 (vcons u vnil)) (Err e) (tt, (tt, tt)) (tt, (tt, tt))) $
          move ! (2 ∷ []) $ use1 𝓛 (‵ (fres xs.ghost_name ((Array AR 0).coded.code xs.now))) (𝓛.names.obs-res xs.ghost_name ((Array AR 0).coded.code xs.now)) $
          -- [what the slice ends as; the answer; the tokens]
          nothing ! $ nothing ! $ fjoin ! $ nothing ! $ fjoin ! $ move ! (0 ∷ 2 ∷ []) $ join ! $ move ! (2 ∷ 0 ∷ []) $ join ! $ frame ! $
          says_seven ! (refused, tt, tt, tt, tt, tt, tt) $ done !

      -- what the view's clauses say
      abbrev Shows : (View κs).Denot → Type 0
      Shows r = (shape_of r ≡ given.0) × (layout_strides r ≡ given_strides given.0 given.1 given.2) × (layout_offset r ≡ offset_given given.0 given.2)
          × ((i : List ℕ) → element_at r i ≡ inside given.0 i (stored_at (slice_get xs.now) (given_place given.0 given.1 given.2 i)))
          × ((p : ℕ) → region_stored (storage_of r).region p ≡ slice_get xs.now p)

      shows_given : (lay : Lay.Denot) (x : (Rg κs).Denot) (r : (View κs).Denot) → Lies (Ok lay) → IsWhole x xs.now → (storage_of r).region ≡ x → as_placement (layout_offset r) (shape_of r) (layout_strides r) ≡ placement_of lay
          → ((i : List ℕ) → element_at r i ≡ inside (shape_of r) i (stored_at (region_stored x) (place_of (layout_offset r) (layout_strides r) i))) → Shows r
      shows_given lay x r lies is_whole region placement elements = (
        ap (λ m. m.lengths) placement ∙ lies.lengths_are,
        ap (λ m. m.strides) placement ∙ lies.strides_are,
        ap (λ m. m.offset) placement ∙ lies.offset_is,
        λ i. elements i ∙ element_given xs.now given (placement_of lay) lies x is_whole (as_placement (layout_offset r) (shape_of r) (layout_strides r)) placement i,
        λ p. ap (λ g. region_stored g p) region ∙ held_of_slice xs.now given (placement_of lay) lies x is_whole p,
      )

      accepted_end : (lay : Lay.Denot) (x : (Rg κs).Denot) (r : (View κs).Denot) (v : Val) → Accepted (Ok lay) → (storage_of r).region ≡ x → Shows r
          → ent 𝓤 (sep 𝓤 (sem 𝓛 ((View κs).own_val r (v ∷ []))) (sep 𝓤 Alive (sem 𝓛 (follows (Array AR 0) (Array AR 0) xs.ghost_name x.name (λ ws. ws))))) (Walk.post y (live 0 (vcons v vnil)))
      unfolding follows_by
      accepted_end lay x r v accepted region shown =
          qed 𝓛 (‵ ((View κs).own_val r (v ∷ [])) ∷ raw Alive ∷ ‵ (follows (Array AR 0) (Array AR 0) xs.ghost_name x.name (λ ws. ws)) ∷ []) ∵
          use1 𝓛 (‵ ((Out κs).own_val (Ok r) (live 0 (vcons v vnil) ∷ []))) (ok_of 𝓛 (View κs) error_row r v) $
          suffices ! _ (ends_at 𝓛 En hs clauses y (live 0 (vcons v vnil)) (Ok r) (tt, (tt, tt)) (tt, (tt, tt))) $
          rewrite ! 2 (λ (g : (Rg κs).Denot). ‵ (follows (Array AR 0) (Array AR 0) xs.ghost_name g.name (λ ws. ws))) (sym region) refl $
          -- [the answer; the tokens; what the slice follows]
          nothing ! $ nothing ! $ fjoin ! $ nothing ! $ fjoin ! $ join ! $ move ! (1 ∷ 0 ∷ []) $ join ! $ frame ! $
          says_seven ! (tt, accepted, shown.0, shown.1, shown.2, shown.3, shown.4) $ done !

      abbrev Lays : Lay.Denot → (View κs).Denot → Type 0
      Lays lay m = as_placement (layout_offset m) (shape_of m) (layout_strides m) ≡ placement_of lay

      abbrev Elements : (Rg κs).Denot → (View κs).Denot → Type 0
      Elements x m = (i : List ℕ) → element_at m i ≡ inside (shape_of m) i (stored_at (region_stored x) (place_of (layout_offset m) (layout_strides m) i))

      abbrev Post : Val → SProp 𝓤
      Post = Walk.post y

      abbrev κs₁ : Lfts 3
      κs₁ = (κD, (κS, (κT, tt)))

      abbrev W-args : Args' W-ended.signature κs₁
      W-args = (SliceMut, (len, (s, tt)))

      abbrev z₁ : W-triple.Ghost
      z₁ = ((κs₁, (qD, (qS, (qT, tt))), tt, W-args, (live 2 vnil ∷ [], (vint w64 len ∷ [], (w ∷ [], tt)))), tt)

      abbrev z₂ : O-triple.Ghost
      z₂ = (((κ, (κA, tt)), (q, (qA, tt)), (bounds.0, tt), (xs, tt), (vs, tt)), tt)

      abbrev κs₃ : Lfts 4
      κs₃ = (κ, (κA, (κD, (κT, tt))))

      abbrev z₃ : (Rg κs).Denot → Lay.Denot → Val → Val → V-triple.Ghost
      z₃ x lay v u = ((κs₃, (q, (qA, (qD, (qT, tt)))), (bounds.0, tt), (x, (lay, tt)), (v ∷ [], (u ∷ [], tt))), tt)

      module _ (wired : Wired 𝓡.env code.code) (lA : Laws A) (lD : Laws D) (lT : Laws T) (lS : Laws S) (cD : IsCopy D) (cT : IsCopy T)
          (md : dimension_bound.Met 𝓛 𝓜 𝓡 𝓡.env D T d dd n nd k kd t td j jd) (mn : axis_bound.Met 𝓛 𝓜 𝓡 𝓡.env D n nd) (mk : clone_bound.Met 𝓛 𝓜 𝓡 𝓡.env D k kd)
          (mt : stride_bound.Met 𝓛 𝓜 𝓡 𝓡.env T t td j jd) (mj : clone_bound.Met 𝓛 𝓜 𝓡 𝓡.env T j jd) (mh : shape_bound.Met 𝓛 𝓜 𝓡 𝓡.env S D T h hd d dd n nd k kd t td j jd) where
        abbrev layouts : Lawful 𝓛 Lay
        layouts = (layout_laws (copied 1 D) (copied 2 T) (copied 2 T) d n t t (copied_laws 1 D lD) (copied_laws 2 T lT) (copied_laws 2 T lT)).lawful 𝓛

        abbrev regions : Lawful 𝓛 (Rg κs)
        regions = (region_laws (named_lft 5 0 tt κs) AR (param_laws 0 A lA)).lawful 𝓛

        abbrev views : Lawful 𝓛 (View κs)
        views = (array_laws (storage_row (Rg κs)) (copied 1 D) (copied 2 T) AR (copied 2 T) (view_impl.ghosts AR) d n t t
            (storage_laws (Rg κs) (region_laws (named_lft 5 0 tt κs) AR (param_laws 0 A lA))) (copied_laws 1 D lD) (copied_laws 2 T lT) (param_laws 0 A lA) (copied_laws 2 T lT)).lawful 𝓛

        walk : T' (has_ty (layout S) w) × WT w → Room AR len → ent 𝓤 (Walk.pre y) (WpFn 𝓤 H 𝓣.C 𝓣.Λ fn (Walk.args y) Post)
        walk w_good rm =
            qed 𝓛 (((‵ (flft κ q) ⊛ ‵ (flft κA qA) ⊛ (‵ (flft κD qD) ⊛ ‵ (flft κT qT) ⊛ (‵ (flft κS qS) ⊛ ‵ ftrue))) ⊛ ‵ (owns (types_at En.signature.params κs) (s, (xs, tt)) (w ∷ [], (vs, tt))))
            ∷ (raw (fact 𝓤 (κA ⊑ A.lives)) ⊛ raw (fact 𝓤 (κD ⊑ D.lives)) ⊛ raw (fact 𝓤 (κT ⊑ T.lives)) ⊛ raw (fact 𝓤 (κS ⊑ S.lives)) ⊛ ‵ ftrue) ∷ []) ∵
            move ! (1 ∷ []) $ split ! $ heard ! (κA ⊑ A.lives) (λ inA. split ! $ heard ! (κD ⊑ D.lives) (λ inD. split ! $ heard ! (κT ⊑ T.lives) (λ inT.
            split ! $ heard ! (κS ⊑ S.lives) (λ inS. drop ! $
            split ! $ split3 ! $ move ! (2 ∷ []) $ split3 ! $ move ! (2 ∷ []) $ split ! $ move ! (6 ∷ []) $ fsplit ! $ move ! (1 ∷ []) $ fsplit ! $
            keep ! (7 ∷ 8 ∷ 5 ∷ 6 ∷ 3 ∷ 2 ∷ 0 ∷ []) $
            -- [the token; A's; D's; T's; S's; the shape; the slice]
            enter ! _ _ _ _ _ $ alloc_all ! (λ l. pass_all ! refl (w_good, ((tt, (tt, (record { fits = rm.0 }, tt))), tt)) $
            let Places : Env 𝓤 H = env fn.locals l in
            let both : Body = head (after 4 fn.body) in
            let Then : After 𝓤 H = any_q (after_seq 𝓤 H (Wp 𝓤 H 𝓣.C 𝓣.Λ Places (after 5 fn.body) (at_return 𝓤 H Places Post)) (at_return 𝓤 H Places Post)) in
            sets ! (agg ! (and_then ! (lit ! tt) (no_more !))) refl (tt, (record { fits = lit< tt }, tt)) $
            sets ! (of_opd ! (get_in ! (fld ! refl (stop !)) (sub ! 1 refl (whole !)))) refl (tt, record { fits = rm.0 }) $
            sets ! (of_opd ! (get ! refl)) refl w_good $
            nothing ! $ use0 𝓛 (raw (fact 𝓤 (κT ⊑ T.lives))) (fact_i 𝓤 (κT ⊑ T.lives) (emp 𝓤) inT) $ join ! $
            use0 𝓛 (raw (fact 𝓤 (κS ⊑ S.lives))) (fact_i 𝓤 (κS ⊑ S.lives) (emp 𝓤) inS) $ join ! $ use0 𝓛 (raw (fact 𝓤 (κD ⊑ D.lives))) (fact_i 𝓤 (κD ⊑ D.lives) (emp 𝓤) inD) $ join ! $
            nothing ! $ move ! (7 ∷ 0 ∷ []) $ join ! $ owned ! usize _ (uint_Makes 𝓛 w64) len _ (refl, rm.0) $ join ! $ use0 𝓛 (‵ (given_in.the_row.own_val SliceMut (live 2 vnil ∷ []))) (given_made 𝓛) $ join ! $
            nothing ! $ move ! (6 ∷ 0 ∷ []) $ join ! $ move ! (6 ∷ 0 ∷ []) $ join ! $ move ! (5 ∷ 0 ∷ []) $ join ! $ join ! $ join ! $
            use1 𝓛 (raw (W-triple.pre z₁)) (id⊢ 𝓤 _) $
            calls_at ! (framed 𝓤 H 𝓜 𝓣) W-triple (laid_met 𝓤 𝓛 𝓜 𝓡 (code.calls-nd_array_core::base::from_shape::laid_out 𝓡.env wired) D S T lD lS lT cD cT d dd n nd k kd t td j jd h hd md mn mk mt mj mh) z₁
            (and_then ! (get ! refl) (and_then ! (get ! refl) (and_then ! (get ! refl) (no_more !)))) (λ v.
            use1 𝓛 (later (some (λ (r : Laid.Denot). (raw Decides ⊛ ‵ (Laid.own_val r (v ∷ []))) ⊛
            some (λ (us : Lasts W-ended κs₁ W-args). ‵ (lasts W-ended κs₁ W-args us) ⊛ raw (fact 𝓤 (Refused r)) ⊛ raw (fact 𝓤 (Accepted r)) ⊛ raw (fact 𝓤 (Lies r)))))) (id⊢ 𝓤 _) $ await ! tt $ pick ! (λ r.
            split ! $ move ! (1 ∷ []) $ pick ! (λ us. split ! $ drop ! $ split ! $ heard ! (Refused r) (λ refused. split ! $ heard ! (Accepted r) (λ accepted. heard ! (Lies r) (λ lies.
            -- [the tokens and the answer; the token; A's; the slice]
            split ! $ move ! (1 ∷ []) $ result_parts 𝓛 Lay error_row (layout Lay) (layout error_row) ! layouts.typed (error_laws.lawful 𝓛).typed r v
            (λ lay u is at_u u_good.
            let held = ok_typed (layout Lay) u u_good in let laid = subst Lies is lies in
            -- [the layout; the tokens; the token; A's; the slice]
            lands_as ! at_u refl held $ first ! $ switches_on ! (get_tag ! (vrt ! refl (fld ! refl (stop !))) (whole !)) $ exec ! 𝓣.C 𝓣.Λ Places (arm_body 0 both) Then $
            sets ! (of_opd ! (get_in ! (vrt ! refl (fld ! refl (stop !))) (in_variant ! 0 0 refl refl (whole !)))) refl u_good $
            sets ! (addr ! (from ! (fld ! refl (hop ! (look_in_at ! 2 (sub ! 0 refl (whole !))) (stop !))))) refl (tt, tt) $
            sets ! (agg ! (and_then ! (get ! refl) (and_then ! (get_in ! (fld ! refl (stop !)) (sub ! 1 refl (whole !))) (no_more !)))) refl (tt, (tt, (record { fits = rm.0 }, tt))) $
            nothing ! $ use0 𝓛 (raw (fact 𝓤 (κA ⊑ A.lives))) (fact_i 𝓤 (κA ⊑ A.lives) (emp 𝓤) inA) $ join ! $ nothing ! $ move ! (6 ∷ 0 ∷ []) $ join ! $
            nothing ! $ move ! (6 ∷ 0 ∷ []) $ join ! $ move ! (5 ∷ 0 ∷ []) $ join ! $ join ! $ join ! $ use1 𝓛 (raw (O-triple.pre z₂)) (id⊢ 𝓤 _) $
            calls_at ! (framed 𝓤 H 𝓜 𝓣) O-triple (of_met 𝓤 𝓛 𝓜 𝓡 (code.calls-nd_region::divided_mutable_borrow::Region::from_slice 𝓡.env wired) A lA) z₂ (and_then ! (get ! refl) (no_more !)) (λ v₁.
            use1 𝓛 (later (some (λ (x : (Rg κs).Denot). ((‵ (flft κ q) ⊛ ‵ (flft κA qA) ⊛ ‵ ftrue) ⊛ ‵ ((Rg κs).own_val x (v₁ ∷ []))) ⊛
            some (λ (us₁ : Lasts O-ended (κ, (κA, tt)) (xs, tt)). ‵ (lasts O-ended (κ, (κA, tt)) (xs, tt) us₁) ⊛ ‵ (follows (Array AR 0) (Array AR 0) xs.ghost_name x.name (λ ws. ws)) ⊛ raw (fact 𝓤 (IsWhole x xs.now)))))) (id⊢ 𝓤 _) $ await ! tt $ pick ! (λ x.
            split ! $ move ! (1 ∷ []) $ pick ! (λ us₁. split ! $ drop ! $ split ! $ move ! (1 ∷ []) $ heard ! (IsWhole x xs.now) (λ is_whole.
            -- [what the slice follows; the tokens and the region; the layout; the other tokens]
            move ! (1 ∷ []) $ split ! $ move ! (1 ∷ []) $ peeks ! (Rg κs) (Is (Rg κs)) (shows 𝓛 (Rg κs)) x (v₁ ∷ []) (λ typed.
            lands_as ! refl refl (regions.typed x (v₁ ∷ []) typed).0 $ sets ! (of_opd ! (get ! refl)) refl u_good $
            move ! (1 ∷ []) $ split3 ! $ move ! (6 ∷ 0 ∷ 1 ∷ []) $ group ! 3 $ use1 𝓛 (raw Alive) decided $ use1 𝓛 (raw Makes ⊛ ‵ (flft κS qS)) apart $ split ! $
            -- [the tokens; S's; nothing; the region; what the slice follows; the layout]
            let Sound : Type 0 = LiesBy (region_stored x) (placement_of lay) in
            use0 𝓛 (raw (fact 𝓤 Sound)) (fact_i 𝓤 Sound (emp 𝓤) (region_sound xs.now given (placement_of lay) laid x is_whole (record { as_many = lay.as_many; spread = lay.spread; checked = lay.checked; reach = lay.reach }))) $
            use0 𝓛 (raw (fact 𝓤 (κT ⊑ T.lives))) (fact_i 𝓤 (κT ⊑ T.lives) (emp 𝓤) inT) $ join ! $
            use0 𝓛 (raw (fact 𝓤 (κD ⊑ D.lives))) (fact_i 𝓤 (κD ⊑ D.lives) (emp 𝓤) inD) $ join ! $ use0 𝓛 (raw (fact 𝓤 (κA ⊑ A.lives))) (fact_i 𝓤 (κA ⊑ A.lives) (emp 𝓤) inA) $ join ! $
            nothing ! $ move ! (7 ∷ 0 ∷ []) $ join ! $ move ! (5 ∷ 0 ∷ []) $ join ! $ move ! (2 ∷ 0 ∷ []) $ join ! $ join ! $ use1 𝓛 (raw (V-triple.pre (z₃ x lay v₁ u))) (id⊢ 𝓤 _) $
            calls_at ! (framed 𝓤 H 𝓜 𝓣) V-triple (view_met 𝓤 𝓛 𝓜 𝓡 (code.calls-nd_array_core::base::from_shape::region_laid_out 𝓡.env wired) A D T lA lD lT cD cT d dd n nd k kd t td j jd md mn mk mt mj) (z₃ x lay v₁ u)
            (and_then ! (get ! refl) (and_then ! (get ! refl) (no_more !))) (λ v₂.
            use1 𝓛 (later (some (λ (m : (View κs).Denot). (raw Makes ⊛ ‵ ((View κs).own_val m (v₂ ∷ []))) ⊛
            some (λ (us₂ : Lasts V-ended κs₃ (x, (lay, tt))). ‵ (lasts V-ended κs₃ (x, (lay, tt)) us₂) ⊛ raw (fact 𝓤 ((storage_of m).region ≡ x)) ⊛ raw (fact 𝓤 (Lays lay m)) ⊛ raw (fact 𝓤 (Elements x m)))))) (id⊢ 𝓤 _) $ await ! tt $ pick ! (λ m.
            split ! $ move ! (1 ∷ []) $ pick ! (λ us₂. split ! $ drop ! $ split ! $ heard ! ((storage_of m).region ≡ x) (λ region. split ! $ heard ! (Lays lay m) (λ placement. heard ! (Elements x m) (λ elements.
            -- [the tokens and the view; S's; nothing; what the slice follows]
            split ! $ move ! (1 ∷ []) $ peeks ! (View κs) (Is (View κs)) (shows 𝓛 (View κs)) m (v₂ ∷ []) (λ typed₂.
            let m_good = (views.typed m (v₂ ∷ []) typed₂).0 in let out = ok_typed (layout (View κs)) v₂ m_good in
            lands_as ! refl refl m_good $ sets_last ! (agg ! (and_then ! (lit ! tt) (and_then ! (get ! refl) (no_more !)))) refl out $
            exec ! 𝓣.C 𝓣.Λ Places (after 5 fn.body) (at_ret Places Post) $ sets ! (of_opd ! (get ! refl)) refl out $
            returns ! (look_at ! 0 refl) $ free_all ! refl $ keep ! (0 ∷ 1 ∷ 2 ∷ 4 ∷ []) $
            move ! (1 ∷ 2 ∷ []) $ group ! 2 $ use1 𝓛 (raw Alive) made $ move ! (1 ∷ 0 ∷ 2 ∷ []) $
            by ! (accepted_end lay x m v₂ (subst Accepted is accepted) region (shows_given lay x m laid is_whole region placement elements)))))))))))))))
            (λ e u is at_u u_good.
            let held = err_typed (layout error_row) u u_good in
            -- [the error; the tokens; the token; A's; the slice]
            lands_as ! at_u refl held $ first ! $ switches_on ! (get_tag ! (vrt ! refl (fld ! refl (stop !))) (whole !)) $ exec ! 𝓣.C 𝓣.Λ Places (arm_body 1 both) Then $
            sets ! (of_opd ! (get_in ! (vrt ! refl (fld ! refl (stop !))) (in_variant ! 1 0 refl refl (whole !)))) refl u_good $
            sets_last ! (agg ! (and_then ! (lit ! tt) (and_then ! (get ! refl) (no_more !)))) refl held $
            exec ! 𝓣.C 𝓣.Λ Places (after 5 fn.body) (at_ret Places Post) $ sets ! (of_opd ! (get ! refl)) refl held $
            move ! (4 ∷ []) $ fsplit3 ! $ move ! (1 ∷ []) $ rewrite ! 0 (λ (zs : List A.Denot). ‵ (fobs xs.ghost_name ((coded_list AR.coded).code zs))) (heres_id AR xs.now) refl $
            returns ! (look_at ! 0 refl) $ free_all ! refl $ keep ! (3 ∷ 4 ∷ 5 ∷ 6 ∷ 0 ∷ []) $
            move ! (1 ∷ 2 ∷ 3 ∷ []) $ group ! 3 $ use1 𝓛 (raw Alive) decided $ move ! (1 ∷ 0 ∷ 2 ∷ []) $ by ! (refused_end e u (subst Refused is refused)))
            )))))))))))

pub from_shape_spec : {M : Type 1} → statement M
from_shape_spec 𝓤 𝓛 𝓜 𝓡 wired A D T S lA lD lT lS cD cT d dd n nd k kd t td j jd h hd md mn mk mt mj mh =
    let En' = En A D T S d dd n nd k kd t td j jd h hd in
    let hs' = hs A D T S d dd n nd k kd t td j jd h hd in
    let c' = clauses A D T S d dd n nd k kd t td j jd h hd 𝓛 𝓜 𝓡 in
    proved_at 𝓛 En' hs' c' 𝓜 𝓡 (Goes-dropped 𝓛 5 (plain (λ _. param 3 S)) no (λ κs x f. refl), (Goes-spent_slice 𝓛 5 (0 ∷ []) tt (plain (λ _. param 0 A)), tt))
    (#self (inst A D T S d dd n nd k kd t td j jd h hd)) (fn A D T S d dd n nd k kd t td j jd h hd)
    (code.unfolded 𝓤 𝓛.H 𝓜 𝓡 wired (A, (D, (T, (S, tt)))) dd nd kd td jd hd) (λ y are.
    let κs = y.0.0 in let qs = y.0.1 in let a = y.0.3 in let xs : MutBor (List A.Denot) = a.1.0 in
    let Run = walk_of 𝓛 En' hs' c' in
    let at : List Val → List Val → Run.Ghost = λ ws us. ((κs, qs, y.0.2, a, (ws, (us, tt))), y.1) in
    let Goes : List Val → List Val → Type 1 = λ ws us. ent 𝓤 (Run.pre (at ws us)) (WpFn 𝓤 𝓛.H (tables 𝓤 𝓛.H 𝓜 𝓡 𝓡.env).C (tables 𝓤 𝓛.H 𝓜 𝓡 𝓡.env).Λ (fn A D T S d dd n nd k kd t td j jd h hd) (Run.args (at ws us)) (Run.post (at ws us))) in
    subst (Goes y.0.4.0) (sym are.1.0.0.0) (one_value (layout S) (λ ws. Goes ws (mut_slice_vals xs)) y.0.4.0 (((param_laws 3 S lS).lawful 𝓛).typed a.0 y.0.4.0 are.0) (λ w w_good.
    walk A D T S d dd n nd k kd t td j jd h hd 𝓛 𝓜 𝓡 κs.0 κs.1.0 κs.1.1.0 κs.1.1.1.0 κs.1.1.1.1.0
    qs.0 qs.1.0 qs.1.1.0 qs.1.1.1.0 qs.1.1.1.1.0 y.0.2 a.0 w xs wired lA lD lT lS cD cT md mn mk mt mj mh w_good are.1.0.0.1)))

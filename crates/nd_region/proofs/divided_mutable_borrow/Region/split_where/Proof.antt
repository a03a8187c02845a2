-- `split_where` lends both parts for a lifetime of its own, calls f, and takes them back as the regions that f gave back hold them. Assumes `Logic`.
use Rattle.nd_region.proofs.SeparationLogicImports.{Are, Ises, refl, sym, ap, subst, ◌∙◌, Bool, true, not, ◌&&◌, ℕ, ◌<◌, ◌^◌, List, [], ◌∷◌, ◌++◌, length, Ura, full_share, coded_list, Args, Fn, Dict, a_type, dnil, dcons, method, no_args, ty_ptr, w64, inst_fn, Val, vint, vptr, vstruct, of_list, has_ty, SProp, ent, emp, wand, id⊢, apply∗, Lft, GName, Share, ftrue, flft, fdead, fres, ◌⊑◌, meet_⊑_left, meet_⊑_right, Lfts, Fun, fact, fact_i, tables, tables_of, Memory, Routine, Tables, WpFn, fm_of, Logic, open_ref, close_ref, lft_new, lft_end, ‵, raw, ◌⊛◌, some, later, ◌$◌, ◌∵◌, !, qed, move, keep, drop, use0, use1, use2, use3, split, split3, join, pick, rewrite, fsplit, fsplit3, fjoin, fjoin3, fpick, feq_i, feq_l, await, suffices, done, whole, sub, look_in, agg, stop, fld, load, no_more, and_then, of_opd, returns, enter, alloc_all, pass_all, free_all, look_at, get, get_in, through, sets, lands_as, SemTy, yes, no, Is, shows, cell_at, usize, isize, unit, SliceRefOf, bounded, layout, param, once_call, RattleType, owns, block_ptr, ptr_val, NamedLft, mut_vals, plain, named_lft, types_at, slice_val, shr_slice_vals, uint_vals, nothing, heard, only, peeks, opens, closes, Tuple, calls_at, Clauses, Ended, Lasts, lasts, Vals, Meets, triple_of, Triple, Contract, says, Stays, stay_ref, stay_dropped, walk_of, ends_at, Goes-ref, Goes-dropped}
use base.Share
use denote.Param.Call as called
use denote.Triple.Entry.{Args as Args'}
use Rattle.std.proofs.raw_atomic.Walks.{proved_at}
use Rattle.std.proofs.mem.Param.{El, R, el_x, Good, lawful, one, args as end_args}
use Rattle.nd_region.proofs.TruthOfConjunctions.{all_three}
use Rattle.nd_region.specs.RegionMemory.{Spots}
use Rattle.nd_region.specs.Region.{IsPartWhere, IsSameBorrow, with_items}
use Rattle.nd_region.specs.RegionPlaces.{kept_where, merged_rows}
use Rattle.nd_region.proofs.RegionValueAndPlaces.{tells, Rg, rg_d, rg_val, rg_vals, rg_Tells, rg_had, rg_made, ptr_Good, row_at}
use Rattle.nd_region.proofs.RegionReborrows.{rows_cut, kept_length, LentLocal, lends_local, takes_back, rejoins}
use Rattle.nd_region.specs.contracts.divided_mutable_borrow.Region.end as END
use Rattle.nd_region.proofs.divided_mutable_borrow.Region.end.Symbol as end_symbol
use Rattle.nd_region.proofs.divided_mutable_borrow.Region.end.Met as end_thm
use Rattle.nd_region.specs.contracts.divided_mutable_borrow.Region.split_where.F-FnOnce as Called
use Rattle.nd_region.specs.contracts.divided_mutable_borrow.Region.split_where as F
use Rattle.nd_region.specs.contracts.divided_mutable_borrow.Region.split_where.Key.{name as #self}
use Rattle.nd_region.proofs.divided_mutable_borrow.Region.split_where.Statement as stated
use Rattle.nd_region.proofs.divided_mutable_borrow.Region.split_where.Code as code

-- the element type, the answer and the closure
module _ (E Y Z : El) (g : Called.Ghosts E.row Y.row Z.row) (d₀ d' : Dict) where
  abbrev args : Args
  args = bounded (a_type ∷ a_type ∷ a_type ∷ []) (E.row, (Y.row, (Z.row, tt))) (dcons d₀ (dcons d' dnil))

  abbrev here : Fn
  here = inst_fn args code.function

  abbrev ended : Ended
  ended = F.ended E.row Y.row Z.row g d₀ d'

  abbrev callee : Ended
  callee = Called.ended E.row Y.row Z.row

  abbrev stayed : Stays ended.signature.params ended.kept
  stayed = (
    stay_ref (0 ∷ []) tt (plain (λ κs. Rg (named_lft 9 1 tt κs) E)),
    (stay_dropped (plain (λ _. usize)) yes, (stay_dropped (SliceRefOf (2 ∷ []) tt (plain (λ _. usize)) (λ _. tt)) yes, (stay_dropped (SliceRefOf (3 ∷ []) tt (plain (λ _. isize)) (λ _. tt)) yes, (stay_dropped (plain (λ _. usize)) yes, (stay_dropped (SliceRefOf (4 ∷ []) tt (plain (λ _. usize)) (λ _. tt)) yes, (stay_dropped (SliceRefOf (5 ∷ []) tt (plain (λ _. isize)) (λ _. tt)) yes, (stay_dropped (plain (λ _. param 2 Z.row)) no, tt))))))),
  )

  abbrev Once : {M : Type 1} {𝓤 : Ura M} (𝓛 : Logic 𝓤) → Contract 𝓤
  Once 𝓛 = triple_of 𝓛 callee.signature
      (called.spec callee 3 (λ κs. (κs.1.0, (κs.1.1.0, (κs.1.1.1.0, tt)))) (Z.row.lives, (E.row.lives, (Y.row.lives, tt))) (once_call g) (λ κs a. a) (λ κs a. a) (λ κs a. a) 𝓛)

  module _ {M : Type 1} {𝓤 : Ura M} (𝓛 : Logic 𝓤) (at_mem : Memory → SProp 𝓤) (run : Routine → Fun 𝓤) (𝓣 : Tables 𝓤 𝓛.H) (met : Triple 𝓤 (𝓣.C (method d₀ 0 no_args)) (Once 𝓛))
      (end_met : Meets 𝓛 (END.signature E.row) (𝓣.C (end_symbol.name (end_args E))) (END.spec E.row 𝓛 at_mem run)) where
    open 𝓛 use {H, A}

    abbrev held : Clauses 𝓤 ended
    held = F.clauses E.row Y.row Z.row g d₀ d' 𝓛 at_mem run

    abbrev Bound : Type 0
    Bound = (walk_of 𝓛 ended stayed held).Ghost

    abbrev Goes : Bound → Type 1
    Goes y = ent 𝓤 ((walk_of 𝓛 ended stayed held).pre y) (WpFn 𝓤 H 𝓣.C 𝓣.Λ here ((walk_of 𝓛 ended stayed held).args y) ((walk_of 𝓛 ended stayed held).post y))

    abbrev at : (z : Bound) → Vals ended.signature z.0.0 → Bound
    at z vss = ((z.0.0, z.0.1, z.0.2, z.0.3, vss), z.1)

    abbrev spelled : Bound → Val → Bound
    spelled z w = at z (mut_vals z.0.3.0, (uint_vals w64 z.0.3.1.0, (shr_slice_vals z.0.3.1.1.0, (shr_slice_vals z.0.3.1.1.1.0, (uint_vals w64 z.0.3.1.1.1.1.0, (shr_slice_vals z.0.3.1.1.1.1.1.0, (shr_slice_vals z.0.3.1.1.1.1.1.1.0, (w ∷ [], tt))))))))

    -- the rest of the call of `end`: what its triple binds, and what it leaves
    abbrev G : Contract 𝓤
    G = triple_of 𝓛 (END.signature E.row) (END.spec E.row 𝓛 at_mem run)

    walk : (z : Bound) → z.0.3.1.0 < 2 ^ 64 → length z.0.3.1.1.0.now < 2 ^ 64 → length z.0.3.1.1.1.0.now < 2 ^ 64 → z.0.3.1.1.1.1.0 < 2 ^ 64 → length z.0.3.1.1.1.1.1.0.now < 2 ^ 64 → length z.0.3.1.1.1.1.1.1.0.now < 2 ^ 64 → (w : Val) → Good Z w → Goes (spelled z w)
    walk z fi fl fs fi' fl' fs' w gw =
        let κ₀ = z.0.0.0 in let κ₁ = z.0.0.1.0 in let κ₂ = z.0.0.1.1.0 in let κ₃ = z.0.0.1.1.1.0 in let κ₇ = z.0.0.1.1.1.1.0 in let κ₈ = z.0.0.1.1.1.1.1.0 in let κ₄ = z.0.0.1.1.1.1.1.1.0 in let κ₅ = z.0.0.1.1.1.1.1.1.1.0 in let κ₆ = z.0.0.1.1.1.1.1.1.1.1.0 in
        let q₀ = z.0.1.0 in let q₁ = z.0.1.1.0 in let q₂ = z.0.1.1.1.0 in let q₃ = z.0.1.1.1.1.0 in let q₇ = z.0.1.1.1.1.1.0 in let q₈ = z.0.1.1.1.1.1.1.0 in let q₄ = z.0.1.1.1.1.1.1.1.0 in let q₅ = z.0.1.1.1.1.1.1.1.1.0 in let q₆ = z.0.1.1.1.1.1.1.1.1.1.0 in
        let lq : Share = Share.left q₄ in let rq : Share = Share.right q₄ in
        let rb : ℕ = z.0.3.0.ref_ptr.0 in let ro : ℕ = z.0.3.0.ref_ptr.1 in let d : rg_d E = z.0.3.0.now in let f : el_x Z = z.0.3.1.1.1.1.1.1.1.0 in
        let h : ℕ → Bool = z.1 in let k : ℕ → Bool = λ p. not (h p) in
        let a₁ : NamedLft = named_lft 9 1 tt z.0.0 in
        let y₀ : Bound = spelled z w in
        let Asks : Type 0 = (x y : rg_d E) → IsPartWhere h d x → IsPartWhere k d y → F.F-pre E.row Y.row Z.row g d₀ d' f x y in
        let Gives : Type 0 = (x y : rg_d E) (out : rg_d E × rg_d E × el_x Y) → IsPartWhere h d x → IsPartWhere k d y → F.F-post E.row Y.row Z.row g d₀ d' f x y out → IsSameBorrow x out.0 × IsSameBorrow y out.1 in
        let code_of : List (el_x E) → base.Stored.Gv = (coded_list (R E).coded).code in
        qed 𝓛 (((‵ (flft κ₀ q₀) ⊛ ‵ (flft κ₁ q₁) ⊛ ‵ (flft κ₂ q₂) ⊛ ‵ (flft κ₃ q₃) ⊛ ‵ (flft κ₇ q₇) ⊛ ‵ (flft κ₈ q₈) ⊛ ‵ (flft κ₄ q₄) ⊛ ‵ (flft κ₅ q₅) ⊛ ‵ (flft κ₆ q₆) ⊛ ‵ ftrue) ⊛ ‵ (owns (types_at ended.signature.params z.0.0) z.0.3 y₀.0.4))
        ∷ (raw (fact 𝓤 (κ₄ ⊑ E.row.lives)) ⊛ raw (fact 𝓤 (κ₅ ⊑ Y.row.lives)) ⊛ raw (fact 𝓤 (κ₆ ⊑ Z.row.lives)) ⊛ raw (fact 𝓤 Asks) ⊛ raw (fact 𝓤 Gives)) ∷ []) ∵
        move ! (1 ∷ []) $ split ! $ heard ! (κ₄ ⊑ E.row.lives) (λ inE. split ! $ heard ! (κ₅ ⊑ Y.row.lives) (λ inY. split ! $ heard ! (κ₆ ⊑ Z.row.lives) (λ inZ. split ! $ heard ! Asks (λ asks. heard ! Gives (λ gives.
        split ! $ split3 ! $ move ! (2 ∷ []) $ split3 ! $ move ! (2 ∷ []) $ split3 ! $ move ! (2 ∷ []) $ split3 ! $ move ! (2 ∷ []) $ split ! $
        move ! (10 ∷ []) $ fsplit ! $ fsplit3 ! $ move ! (3 ∷ []) $ fsplit ! $ move ! (1 ∷ []) $ fsplit ! $ move ! (1 ∷ []) $ fsplit ! $ move ! (1 ∷ []) $ fsplit ! $ move ! (1 ∷ []) $ fsplit ! $ move ! (1 ∷ []) $ fsplit ! $ move ! (1 ∷ []) $ fsplit ! $
        keep ! (9 ∷ 10 ∷ 19 ∷ 20 ∷ 0 ∷ 13 ∷ 14 ∷ 11 ∷ 17 ∷ 18 ∷ 15 ∷ 16 ∷ []) $
        -- [obs; the borrow; the `&mut`'s token; the region's; f; A's; R's; F's; the four slices']
        enter ! 𝓣.C 𝓣.Λ here (vptr rb ro ∷ vint w64 z.0.3.1.0 ∷ slice_val z.0.3.1.1.0.ref_ptr (length z.0.3.1.1.0.now) ∷ slice_val z.0.3.1.1.1.0.ref_ptr (length z.0.3.1.1.1.0.now) ∷ vint w64 z.0.3.1.1.1.1.0 ∷ slice_val z.0.3.1.1.1.1.1.0.ref_ptr (length z.0.3.1.1.1.1.1.0.now) ∷ slice_val z.0.3.1.1.1.1.1.1.0.ref_ptr (length z.0.3.1.1.1.1.1.1.0.now) ∷ w ∷ []) _ $
        alloc_all ! (λ l. pass_all ! refl ((tt, tt), ((tt, record { fits = fi }), ((tt, (tt, (record { fits = fl }, tt))), ((tt, (tt, (record { fits = fs }, tt))), ((tt, record { fits = fi' }), ((tt, (tt, (record { fits = fl' }, tt))), ((tt, (tt, (record { fits = fs' }, tt))), (gw, tt)))))))) $
        opens ! tt (Rg a₁ E) {h = d} rb ro (λ vs. move ! (1 ∷ []) $ rg_had a₁ E ! d vs (λ b o at_b is fn fit long.
        rewrite ! 1 (λ (ws : List Val). ‵ (cell_at full_share (Rg a₁ E).mir ws rb ro)) is refl $
        sets ! (of_opd ! (load ! (through ! refl (fld ! refl (stop !))) (look_in ! 1 (sub ! 0 refl (whole !))))) refl (tt, tt) $
        sets ! (of_opd ! (load ! (through ! refl (fld ! refl (stop !))) (look_in ! 1 (sub ! 1 refl (whole !))))) refl (tt, record { fits = fn }) $
        sets ! (agg ! (no_more !)) refl (tt, tt) $
        sets ! (agg ! (and_then ! (get ! refl) (and_then ! (get ! refl) (and_then ! (get ! refl) (no_more !))))) refl (tt, (tt, (record { fits = fn }, (tt, tt)))) $
        sets ! (agg ! (no_more !)) refl (tt, tt) $
        sets ! (agg ! (and_then ! (get ! refl) (and_then ! (get ! refl) (and_then ! (get ! refl) (no_more !))))) refl (tt, (tt, (record { fits = fn }, (tt, tt)))) $
        sets ! (of_opd ! (get ! refl)) refl gw $
        sets ! (of_opd ! (get ! refl)) refl (tt, (tt, (record { fits = fn }, (tt, tt)))) $
        sets ! (of_opd ! (get ! refl)) refl (tt, (tt, (record { fits = fn }, (tt, tt)))) $
        let All : SemTy = Spots (R E) (block_ptr b o) d.held in let hs : List Bool = kept_where h d.held in let ks : List Bool = kept_where k d.held in
        fsplit ! $ move ! (0 ∷ 1 ∷ 6 ∷ []) $ open_ref ! tt All {x = d.items} {b = 0} {o = 0} $ fsplit ! $ feq_l ! (λ same_length.
        use1 𝓛 (‵ (row_at E b o d.items hs) ⊛ ‵ (row_at E b o d.items ks)) (rows_cut E 𝓛 b h d.items d.held o) $ split ! $ lft_new ! tt (λ α.
        let κ' : Lft = α ∷ κ₄ in let κs : Lfts 4 = (κ', (κ₆, (κ₄, (κ₅, tt)))) in let a : NamedLft = named_lft 4 0 tt κs in
        move ! (11 ∷ []) $ use1 𝓛 (‵ (flft κ₄ lq) ⊛ ‵ (flft κ₄ rq)) (𝓛.lfts.lft_split κ₄ q₄) $ split ! $ move ! (2 ∷ []) $
        use1 𝓛 (‵ (flft (α ∷ []) lq) ⊛ raw (wand 𝓤 (A.lft (α ∷ []) lq) (A.lft (α ∷ []) full_share))) (𝓛.lfts.lft_carve α lq) $ split ! $ move ! (0 ∷ 2 ∷ []) $
        use2 𝓛 (‵ (flft κ' lq)) (𝓛.lfts.lft_meet (α ∷ []) κ₄ lq) $
        -- [κ'; α's way back; A's right; the named places; the others; the open loan, obs, auth; the cell, open borrow, obs, auth; f; R's; F's; the four slices']
        move ! (3 ∷ []) $ use1 𝓛 (later (some (LentLocal E 𝓛 b κ' o d.items hs))) (lends_local E 𝓛 b κ' o d.items hs (same_length ∙ sym (kept_length h d.held))) $ await ! tt $ pick ! (λ γ₁. split ! $
        move ! (5 ∷ []) $ use1 𝓛 (later (some (LentLocal E 𝓛 b κ' o d.items ks))) (lends_local E 𝓛 b κ' o d.items ks (same_length ∙ sym (kept_length k d.held))) $ await ! tt $ pick ! (λ γ₂. split ! $
        let one : rg_d E = record { ptr = block_ptr b o; len = d.len; mark = record {}; name = γ₁; items = d.items; held = hs; small = fn } in
        let two : rg_d E = record { ptr = block_ptr b o; len = d.len; mark = record {}; name = γ₂; items = d.items; held = ks; small = fn } in
        rg_made a E ! two b o refl fn fit (kept_length k d.held ∙ long) $ move ! (2 ∷ []) $ rg_made a E ! one b o refl fn fit (kept_length h d.held ∙ long) $
        let passed : Args' callee.signature κs = (f, (one, (two, tt))) in
        let Ok : Type 0 = g.pre f (one, (two, tt)) in
        let Three : RattleType = Tuple (Rg a E ∷ Rg a E ∷ param 1 Y.row ∷ []) in
        let y : (Once 𝓛).Ghost = ((κs, (lq, (q₆, (rq, (q₅, tt)))), (meet_⊑_right (α ∷ []) κ₄, tt), passed, (w ∷ [], (rg_val (block_ptr b o) d.len ∷ [], (rg_val (block_ptr b o) d.len ∷ [], tt)))), tt) in
        -- [one; two; the rights to get two and one back; κ'; α's way back; A's right; the open loan, obs, auth; the cell, open borrow, obs, auth; f; R's; F's; the four slices']
        nothing ! $ move ! (2 ∷ 0 ∷ []) $ fjoin ! $ move ! (1 ∷ 0 ∷ []) $ fjoin ! $ move ! (13 ∷ 0 ∷ []) $ fjoin ! $
        nothing ! $ move ! (14 ∷ 0 ∷ []) $ join ! $ move ! (6 ∷ 0 ∷ []) $ join ! $ move ! (13 ∷ 0 ∷ []) $ join ! $ move ! (4 ∷ 0 ∷ []) $ join ! $ join ! $
        use0 𝓛 (raw (fact 𝓤 Ok)) (fact_i 𝓤 Ok (emp 𝓤) (asks one two (refl, refl) (refl, refl))) $ use0 𝓛 (raw (fact 𝓤 (κ₅ ⊑ Y.row.lives))) (fact_i 𝓤 (κ₅ ⊑ Y.row.lives) (emp 𝓤) inY) $ join ! $
        use0 𝓛 (raw (fact 𝓤 (κ₄ ⊑ E.row.lives))) (fact_i 𝓤 (κ₄ ⊑ E.row.lives) (emp 𝓤) inE) $ join ! $ use0 𝓛 (raw (fact 𝓤 (κ₆ ⊑ Z.row.lives))) (fact_i 𝓤 (κ₆ ⊑ Z.row.lives) (emp 𝓤) inZ) $ join ! $
        move ! (1 ∷ 0 ∷ []) $ join ! $ use1 𝓛 (raw ((Once 𝓛).pre y)) (id⊢ 𝓤 ((Once 𝓛).pre y)) $
        calls_at ! (fm_of 𝓤 H 𝓛.laws 𝓣) (Once 𝓛) met y (and_then ! (get ! refl) (and_then ! (get ! refl) (and_then ! (get ! refl) (no_more !)))) (λ got.
        use1 𝓛 (later (some (λ (r : Three.Denot). ((‵ (flft κ' lq) ⊛ ‵ (flft κ₆ q₆) ⊛ ‵ (flft κ₄ rq) ⊛ ‵ (flft κ₅ q₅) ⊛ ‵ ftrue) ⊛ ‵ (Three.own_val r (got ∷ [])))
        ⊛ some (λ (ws : Lasts callee κs passed). ‵ (lasts callee κs passed ws) ⊛ raw (fact 𝓤 (g.post f (one, (two, tt)) r)))))) (id⊢ 𝓤 ((Once 𝓛).post y got)) $
        await ! tt $ pick ! (λ r. split ! $ move ! (1 ∷ []) $ pick ! (λ ws. split ! $ drop ! $ heard ! (g.post f (one, (two, tt)) r) (λ gave.
        let s₁ : rg_d E = r.0 in let s₂ : rg_d E = r.1 in let xs₁ : List (el_x E) = s₁.items in let xs₂ : List (el_x E) = s₂.items in
        let same : IsSameBorrow one s₁ × IsSameBorrow two s₂ = gives one two r (refl, refl) (refl, refl) gave in
        let g₁ = ptr_Good s₁.ptr in let g₂ = ptr_Good s₂.ptr in
        split ! $ move ! (1 ∷ []) $ fpick ! (λ vss. fsplit ! $ feq_l ! (λ e. fsplit3 ! $ peeks ! (Rg a E) (Is (Rg a E)) (shows 𝓛 (Rg a E)) s₁ vss.0 (λ is₁.
        let e₁ = rg_Tells a E s₁ vss.0 is₁ in rewrite ! 0 (λ (us : List Val). ‵ ((Rg a E).own_val s₁ us)) e₁ refl $ move ! (1 ∷ []) $ peeks ! (Rg a E) (Is (Rg a E)) (shows 𝓛 (Rg a E)) s₂ vss.1.0 (λ is₂.
        let e₂ = rg_Tells a E s₂ vss.1.0 is₂ in rewrite ! 0 (λ (us : List Val). ‵ ((Rg a E).own_val s₂ us)) e₂ refl $ move ! (2 ∷ []) $ fsplit ! $ tells ! Y r.2 vss.1.1.0 (λ v e₃ g₃.
        lands_as ! (ap only e ∙ (λ i. vstruct (of_list (e₁ i ++ (e₂ i ++ (e₃ i ++ [])))))) refl (
          all_three (has_ty ty_ptr (ptr_val s₁.ptr) && true) (has_ty ty_ptr (ptr_val s₂.ptr) && true) (has_ty (layout Y.row) v) g₁.0 g₂.0 g₃.0,
          ((g₁.1, (record { fits = s₁.small }, (tt, tt))), ((g₂.1, (record { fits = s₂.small }, (tt, tt))), (g₃.1, tt))),
        ) $
        sets ! (of_opd ! (get_in ! (fld ! refl (stop !)) (sub ! 0 refl (whole !)))) refl (g₁.0, (g₁.1, (record { fits = s₁.small }, (tt, tt)))) $
        sets ! (of_opd ! (get_in ! (fld ! refl (stop !)) (sub ! 1 refl (whole !)))) refl (g₂.0, (g₂.1, (record { fits = s₂.small }, (tt, tt)))) $
        sets ! (of_opd ! (get_in ! (fld ! refl (stop !)) (sub ! 2 refl (whole !)))) refl g₃ $
        sets ! (of_opd ! (get ! refl)) refl (g₁.0, (g₁.1, (record { fits = s₁.small }, (tt, tt)))) $
        -- [the answer; nothing; the second; the first; the tokens; the rights to get two and one back; α's way back; ..]
        let z₁ : (G).Ghost = (((κ', (κ₄, tt)), (lq, (rq, tt)), (meet_⊑_right (α ∷ []) κ₄, tt), (s₁, tt), (rg_vals a E s₁, tt)), tt) in
        let z₂ : (G).Ghost = (((κ', (κ₄, tt)), (lq, (rq, tt)), (meet_⊑_right (α ∷ []) κ₄, tt), (s₂, tt), (rg_vals a E s₂, tt)), tt) in
        move ! (4 ∷ []) $ split3 ! $ move ! (2 ∷ []) $ split3 ! $ move ! (8 ∷ 6 ∷ []) $ fjoin ! $ move ! (1 ∷ 3 ∷ []) $ join ! $ move ! (3 ∷ 0 ∷ []) $ join ! $ join ! $
        nothing ! $ use0 𝓛 (raw (fact 𝓤 (κ₄ ⊑ E.row.lives))) (fact_i 𝓤 (κ₄ ⊑ E.row.lives) (emp 𝓤) inE) $ join ! $ move ! (1 ∷ 0 ∷ []) $ join ! $ use1 𝓛 (raw (G.pre z₁)) (id⊢ 𝓤 (G.pre z₁)) $
        calls_at ! (fm_of 𝓤 H 𝓛.laws 𝓣) G end_met z₁ (and_then ! (get ! refl) (no_more !)) (λ first_end.
        use1 𝓛 (later (some (λ (t : Unit {0}). ((‵ (flft κ' lq) ⊛ ‵ (flft κ₄ rq) ⊛ ‵ ftrue) ⊛ ‵ (unit.own_val t (first_end ∷ [])))
        ⊛ some (λ (us : Lasts (END.ended E.row) z₁.0.0 z₁.0.3). ‵ (lasts (END.ended E.row) z₁.0.0 z₁.0.3 us) ⊛ ‵ (fres s₁.name (code_of xs₁)))))) (id⊢ 𝓤 (G.post z₁ first_end)) $
        await ! tt $ pick ! (λ t. split ! $ move ! (1 ∷ []) $ pick ! (λ us. split ! $ drop ! $ move ! (1 ∷ []) $ split ! $ move ! (1 ∷ []) $ feq_l ! (λ is_unit.
        lands_as ! (ap only is_unit) refl (tt, tt) $
        sets ! (of_opd ! (get ! refl)) refl (g₂.0, (g₂.1, (record { fits = s₂.small }, (tt, tt)))) $
        nothing ! $ move ! (6 ∷ 0 ∷ []) $ fjoin ! $ move ! (1 ∷ 0 ∷ []) $ join ! $
        nothing ! $ use0 𝓛 (raw (fact 𝓤 (κ₄ ⊑ E.row.lives))) (fact_i 𝓤 (κ₄ ⊑ E.row.lives) (emp 𝓤) inE) $ join ! $ move ! (1 ∷ 0 ∷ []) $ join ! $ use1 𝓛 (raw (G.pre z₂)) (id⊢ 𝓤 (G.pre z₂)) $
        calls_at ! (fm_of 𝓤 H 𝓛.laws 𝓣) G end_met z₂ (and_then ! (get ! refl) (no_more !)) (λ second_end.
        use1 𝓛 (later (some (λ (t' : Unit {0}). ((‵ (flft κ' lq) ⊛ ‵ (flft κ₄ rq) ⊛ ‵ ftrue) ⊛ ‵ (unit.own_val t' (second_end ∷ [])))
        ⊛ some (λ (us' : Lasts (END.ended E.row) z₂.0.0 z₂.0.3). ‵ (lasts (END.ended E.row) z₂.0.0 z₂.0.3 us') ⊛ ‵ (fres s₂.name (code_of xs₂)))))) (id⊢ 𝓤 (G.post z₂ second_end)) $
        await ! tt $ pick ! (λ t'. split ! $ move ! (1 ∷ []) $ pick ! (λ us'. split ! $ drop ! $ move ! (1 ∷ []) $ split ! $ move ! (1 ∷ []) $ feq_l ! (λ is_unit'.
        lands_as ! (ap only is_unit') refl (tt, tt) $ split3 ! $
        -- [κ'; A's right; nothing; the second's and the first's last values; R's; F's; the answer; the rights; α's way back; the open loan, obs, auth; the cell, open borrow, obs, auth; the four slices']
        use1 𝓛 (‵ (flft (α ∷ []) lq) ⊛ ‵ (flft κ₄ lq)) (𝓛.lfts.lft_unmeet (α ∷ []) κ₄ lq) $ split ! $ move ! (0 ∷ 11 ∷ []) $
        use2 𝓛 (‵ (flft (α ∷ []) full_share)) (apply∗ 𝓤 (A.lft (α ∷ []) lq) (A.lft (α ∷ []) full_share)) $ lft_end ! tt $ use1 𝓛 (‵ (fdead κ')) (𝓛.lfts.dead-incl κ' (α ∷ []) (meet_⊑_left (α ∷ []) κ₄)) $
        use1 𝓛 (‵ (fdead κ') ⊛ ‵ (fdead κ')) (𝓛.lfts.dead_dup κ') $ split ! $
        rewrite ! 5 (λ (m : GName). ‵ (fres m (code_of xs₂))) same.1 refl $ rewrite ! 6 (λ (m : GName). ‵ (fres m (code_of xs₁))) same.0 refl $
        move ! (0 ∷ 10 ∷ 5 ∷ []) $ use3 𝓛 (later (‵ ((Spots (R E) (block_ptr b o) ks).own_at xs₂ 0 0))) (takes_back E 𝓛 b κ' o ks γ₂ xs₂) $ await ! tt $
        fsplit ! $ feq_l ! (λ long₂. feq_i ! ℕ (length xs₂) (length ks) long₂ $ fjoin ! $
        move ! (1 ∷ 9 ∷ 5 ∷ []) $ use3 𝓛 (later (‵ ((Spots (R E) (block_ptr b o) hs).own_at xs₁ 0 0))) (takes_back E 𝓛 b κ' o hs γ₁ xs₁) $ await ! tt $
        fsplit ! $ feq_l ! (λ long₁. feq_i ! ℕ (length xs₁) (length hs) long₁ $ fjoin ! $
        let m : List (el_x E) = merged_rows hs xs₁ xs₂ in
        use2 𝓛 (‵ (All.own_at m 0 0)) (rejoins E 𝓛 b κ₁ q₁ o d.name d.items d.held h xs₁ xs₂) $
        -- [the whole; A's left; A's right; nothing; R's; F's; the answer; the open loan, obs, auth; the cell, open borrow, obs, auth; the four slices']
        move ! (0 ∷ 7 ∷ 8 ∷ 9 ∷ []) $ close_ref ! tt All m {b = 0} {o = 0} $ fjoin ! $ rg_made a₁ E ! (with_items d m) b o at_b fn fit long $
        move ! (8 ∷ 0 ∷ 9 ∷ 10 ∷ 11 ∷ []) $ closes ! tt (Rg a₁ E) (with_items d m) (rg_val (block_ptr b o) d.len ∷ []) rb ro $
        move ! (4 ∷ 5 ∷ []) $ use2 𝓛 (‵ (flft κ₄ q₄)) (𝓛.lfts.lft_join κ₄ q₄) $
        sets ! (of_opd ! (get ! refl)) refl g₃ $ returns ! (look_at ! 0 refl) $ free_all ! refl $
        suffices ! _ (ends_at 𝓛 ended stayed held y₀ v r.2 (with_items d m, (tt, (tt, (tt, (tt, (tt, (tt, (tt, tt)))))))) (tt, (tt, (tt, (tt, (tt, (tt, (tt, (tt, tt))))))))) $ says ! (one, two, s₁, s₂, (refl, refl), (refl, refl), gave, refl, long₁ ∙ kept_length h d.held ∙ sym same_length, long₂ ∙ kept_length k d.held ∙ sym same_length) $
        -- [A's; obs; the borrow; the `&mut`'s token; the region's; nothing; R's; F's; the answer; the four slices']
        move ! (1 ∷ 2 ∷ []) $ feq_i ! (List Val) (vptr rb ro ∷ []) (vptr rb ro ∷ []) refl $ fjoin3 ! $
        nothing ! $ nothing ! $ fjoin ! $ nothing ! $ fjoin ! $ nothing ! $ fjoin ! $ nothing ! $ fjoin ! $ nothing ! $ fjoin ! $ nothing ! $ fjoin ! $ nothing ! $ fjoin ! $ move ! (1 ∷ 0 ∷ []) $ fjoin ! $ move ! (0 ∷ 7 ∷ []) $ join ! $
        move ! (6 ∷ 4 ∷ []) $ join ! $ move ! (5 ∷ 0 ∷ []) $ join ! $ move ! (2 ∷ 0 ∷ []) $ join ! $ move ! (7 ∷ 0 ∷ []) $ join ! $ move ! (6 ∷ 0 ∷ []) $ join ! $ move ! (5 ∷ 0 ∷ []) $ join ! $ move ! (4 ∷ 0 ∷ []) $ join ! $ move ! (3 ∷ 0 ∷ []) $ join ! $ move ! (2 ∷ 0 ∷ []) $ join ! $ join ! $ done !)))))))))))))))))))))))))))))))

    from_values : (z : Bound) → Are (types_at ended.signature.params z.0.0) (Ises (types_at ended.signature.params z.0.0)) z.0.3 z.0.4 → Goes z
    from_values z are =
        let w = one Z z.0.4.1.1.1.1.1.1.1.0 ((lawful Z 𝓛).typed z.0.3.1.1.1.1.1.1.1.0 z.0.4.1.1.1.1.1.1.1.0 are.1.1.1.1.1.1.1.0) in
        subst (λ (uss : Vals ended.signature z.0.0). Goes (at z uss)) (sym (λ j. (are.0.0 j, (are.1.0.0 j, (are.1.1.0.0.0 j, (are.1.1.1.0.0.0 j, (are.1.1.1.1.0.0 j, (are.1.1.1.1.1.0.0.0 j, (are.1.1.1.1.1.1.0.0.0 j, (w.1 j, tt))))))))))
        (walk z are.1.0.1 are.1.1.0.0.1.0 are.1.1.1.0.0.1.0 are.1.1.1.1.0.1 are.1.1.1.1.1.0.0.1.0 are.1.1.1.1.1.1.0.0.1.0 w.0 w.2)

pub split_where_spec : {M : Type 1} → stated.statement M
unfolding tables_of
split_where_spec 𝓤 𝓛 𝓜 𝓡 wired T₀ T₁ T₂ L₀ L₁ L₂ g d d' met _ =
    let E : El = record { row = T₀; laws = L₀ } in let Y : El = record { row = T₁; laws = L₁ } in let Z : El = record { row = T₂; laws = L₂ } in
    proved_at 𝓛 (ended E Y Z g d d') (stayed E Y Z g d d') (F.clauses T₀ T₁ T₂ g d d' 𝓛 𝓜.mem 𝓡.returns) 𝓜 𝓡 (Goes-ref 𝓛 9 0 tt (plain (λ κs. Rg (named_lft 9 1 tt κs) E)), (Goes-dropped 𝓛 9 (plain (λ _. usize)) yes (λ κs x f. refl), (Goes-dropped 𝓛 9 (SliceRefOf (2 ∷ []) tt (plain (λ _. usize)) (λ _. tt)) yes (λ κs x f. refl), (Goes-dropped 𝓛 9 (SliceRefOf (3 ∷ []) tt (plain (λ _. isize)) (λ _. tt)) yes (λ κs x f. refl), (Goes-dropped 𝓛 9 (plain (λ _. usize)) yes (λ κs x f. refl), (Goes-dropped 𝓛 9 (SliceRefOf (4 ∷ []) tt (plain (λ _. usize)) (λ _. tt)) yes (λ κs x f. refl), (Goes-dropped 𝓛 9 (SliceRefOf (5 ∷ []) tt (plain (λ _. isize)) (λ _. tt)) yes (λ κs x f. refl), (Goes-dropped 𝓛 9 (plain (λ _. param 2 Z.row)) no (λ κs x f. refl), tt))))))))
    (#self (args E Y Z g d d')) (here E Y Z g d d') (code.unfolded 𝓤 𝓛.H 𝓜 𝓡 wired (T₀, (T₁, (T₂, tt))) d d')
    (from_values E Y Z g d d' 𝓛 𝓜.mem 𝓡.returns (tables_of 𝓤 𝓛.H 𝓜 (tables 𝓤 𝓛.H 𝓜 𝓡 𝓡.env)) met.1 (end_thm.met 𝓤 𝓛 𝓜 𝓡 (code.calls-nd_region::divided_mutable_borrow::Region::end 𝓡.env wired) T₀ L₀))

-- `with_region` lends the elements for a lifetime of its own, calls f, and takes them back as the region that f gave back holds them. Assumes `Logic`.
use Rattle.nd_region.proofs.SeparationLogicImports.{Are, Ises, ◌≡◌, refl, sym, ap, subst, ◌∙◌, true, ◌&&◌, ℕ, List, [], ◌∷◌, ◌++◌, length, replicate, length-replicate, Ura, full_share, coded_list, Args, Fn, Dict, a_type, dnil, dcons, method, no_args, ty_ptr, inst_fn, Val, vstruct, of_list, has_ty, SProp, ent, emp, wand, id⊢, apply∗, Lft, GName, Share, ftrue, fsep, flft, fdead, fauth, fres, ◌⊑◌, meet_⊑_left, meet_⊑_right, Lfts, Fun, fact, fact_i, tables, tables_of, Memory, Routine, Tables, WpFn, fm_of, Logic, lft_new, lft_end, name_new, bor_new, lent_back, res_agree, ‵, raw, ◌⊛◌, some, later, ◌$◌, ◌∵◌, !, qed, move, keep, drop, use0, use1, use2, split, split3, join, pick, rewrite, fsplit, fsplit3, fjoin, fpick, fpack, feq_i, feq_l, await, suffices, done, whole, sub, agg, stop, fld, hop, from, addr, no_more, and_then, of_opd, returns, enter, alloc_all, pass_all, free_all, look_at, look_in_at, get, get_in, sets, lands_as, SemTy, cells, no, row, opens_slice, closes_slice, whole_in, whole_out, Is, shows, mem, unit, bounded, layout, param, once_call, RattleType, owns, block_ptr, ptr_val, NamedLft, pure_i, plain, named_lft, types_at, Room, slice_val, mut_slice_vals, mut_slice_at, nothing, heard, only, peeks, Tuple, calls_at, Clauses, Ended, Lasts, lasts, Vals, Meets, triple_of, Triple, Contract, says, Stays, stay_slice, stay_dropped, walk_of, ends_at, Goes-slice, Goes-dropped}
use base.Share
use denote.Param.Call as called
use denote.Triple.Entry.{Args as Args'}
use Rattle.std.proofs.raw_atomic.Walks.{proved_at}
use Rattle.std.proofs.mem.Param.{El, R, el_x, Good, lawful, one, args as end_args}
use Rattle.nd_region.proofs.TruthOfConjunctions.{both}
use Rattle.nd_region.specs.RegionMemory.{Spots}
use Rattle.nd_region.specs.Region.{IsWhole, IsSameBorrow}
use Rattle.nd_region.proofs.RegionValueAndPlaces.{tells, Rg, rg_d, rg_val, rg_vals, rg_Tells, rg_made, ptr_Good, row_at, of_cells, to_cells}
use Rattle.nd_region.specs.contracts.divided_mutable_borrow.Region.end as END
use Rattle.nd_region.proofs.divided_mutable_borrow.Region.end.Symbol as end_symbol
use Rattle.nd_region.proofs.divided_mutable_borrow.Region.end.Met as end_thm
use Rattle.nd_region.specs.contracts.borrow_lent_to_closure.with_region.F-FnOnce as Called
use Rattle.nd_region.specs.contracts.borrow_lent_to_closure.with_region as F
use Rattle.nd_region.specs.contracts.borrow_lent_to_closure.with_region.Key.{name as #self}
use Rattle.nd_region.proofs.borrow_lent_to_closure.with_region.Statement as stated
use Rattle.nd_region.proofs.borrow_lent_to_closure.with_region.Code as code

-- the element type, the answer and the closure
module _ (E Y Z : El) (g : Called.Ghosts E.row Y.row Z.row) (d d' : Dict) where
  abbrev args : Args
  args = bounded (a_type ∷ a_type ∷ a_type ∷ []) (E.row, (Y.row, (Z.row, tt))) (dcons d (dcons d' dnil))

  abbrev here : Fn
  here = inst_fn args code.function

  abbrev ended : Ended
  ended = F.ended E.row Y.row Z.row g d d'

  abbrev callee : Ended
  callee = Called.ended E.row Y.row Z.row

  abbrev stayed : Stays ended.signature.params ended.kept
  stayed = (stay_slice (0 ∷ []) tt (plain (λ _. R E)), (stay_dropped (plain (λ _. param 2 Z.row)) no, tt))

  abbrev Once : {M : Type 1} {𝓤 : Ura M} (𝓛 : Logic 𝓤) → Contract 𝓤
  Once 𝓛 = triple_of 𝓛 callee.signature
      (called.spec callee 3 (λ κs. (κs.1.0, (κs.1.1.0, (κs.1.1.1.0, tt)))) (Z.row.lives, (E.row.lives, (Y.row.lives, tt))) (once_call g) (λ κs a. a) (λ κs a. a) (λ κs a. a) 𝓛)

  module _ {M : Type 1} {𝓤 : Ura M} (𝓛 : Logic 𝓤) (at_mem : Memory → SProp 𝓤) (run : Routine → Fun 𝓤) (𝓣 : Tables 𝓤 𝓛.H) (met : Triple 𝓤 (𝓣.C (method d 0 no_args)) (Once 𝓛))
      (end_met : Meets 𝓛 (END.signature E.row) (𝓣.C (end_symbol.name (end_args E))) (END.spec E.row 𝓛 at_mem run)) where
    open 𝓛 use {H, A}

    abbrev held : Clauses 𝓤 ended
    held = F.clauses E.row Y.row Z.row g d d' 𝓛 at_mem run

    abbrev Bound : Type 0
    Bound = (walk_of 𝓛 ended stayed held).Ghost

    abbrev Goes : Bound → Type 1
    Goes y = ent 𝓤 ((walk_of 𝓛 ended stayed held).pre y) (WpFn 𝓤 H 𝓣.C 𝓣.Λ here ((walk_of 𝓛 ended stayed held).args y) ((walk_of 𝓛 ended stayed held).post y))

    abbrev at : (z : Bound) → Vals ended.signature z.0.0 → Bound
    at z vss = ((z.0.0, z.0.1, z.0.2, z.0.3, vss), z.1)

    abbrev spelled : Bound → Val → Bound
    spelled z w = at z (mut_slice_vals z.0.3.0, (w ∷ [], tt))

    walk : (z : Bound) → Room (R E) (length z.0.3.0.now) → (w : Val) → Good Z w → Goes (spelled z w)
    walk z rm w gw =
        let κ₀ = z.0.0.0 in let κ₁ = z.0.0.1.0 in let κ₂ = z.0.0.1.1.0 in let κ₃ = z.0.0.1.1.1.0 in
        let q₀ = z.0.1.0 in let q₁ = z.0.1.1.0 in let q₂ = z.0.1.1.1.0 in let q₃ = z.0.1.1.1.1.0 in
        let lq : Share = Share.left q₁ in let rq : Share = Share.right q₁ in
        let b : ℕ = z.0.3.0.ref_ptr.0 in let o : ℕ = z.0.3.0.ref_ptr.1 in let xs : List (el_x E) = z.0.3.0.now in let n : ℕ = length xs in let f : el_x Z = z.0.3.1.0 in
        let y₀ : Bound = spelled z w in
        let Asks : Type 0 = (r : rg_d E) → IsWhole r xs → F.F-pre E.row Y.row Z.row g d d' f r in
        let Gives : Type 0 = (r : rg_d E) (out : rg_d E × el_x Y) → IsWhole r xs → F.F-post E.row Y.row Z.row g d d' f r out → IsSameBorrow r out.0 in
        let code_of : List (el_x E) → base.Stored.Gv = (coded_list (R E).coded).code in
        let All : SemTy = Spots (R E) (block_ptr b o) (replicate n true) in
        qed 𝓛 (((‵ (flft κ₀ q₀) ⊛ ‵ (flft κ₁ q₁) ⊛ ‵ (flft κ₂ q₂) ⊛ ‵ (flft κ₃ q₃) ⊛ ‵ ftrue) ⊛ ‵ (owns (types_at ended.signature.params z.0.0) z.0.3 y₀.0.4))
        ∷ (raw (fact 𝓤 (κ₁ ⊑ E.row.lives)) ⊛ raw (fact 𝓤 (κ₂ ⊑ Y.row.lives)) ⊛ raw (fact 𝓤 (κ₃ ⊑ Z.row.lives)) ⊛ raw (fact 𝓤 Asks) ⊛ raw (fact 𝓤 Gives)) ∷ []) ∵
        move ! (1 ∷ []) $ split ! $ heard ! (κ₁ ⊑ E.row.lives) (λ inE. split ! $ heard ! (κ₂ ⊑ Y.row.lives) (λ inY. split ! $ heard ! (κ₃ ⊑ Z.row.lives) (λ inZ. split ! $ heard ! Asks (λ asks. heard ! Gives (λ gives.
        split ! $ split3 ! $ move ! (2 ∷ []) $ split3 ! $ move ! (5 ∷ []) $ fsplit3 ! $ fsplit3 ! $ keep ! (1 ∷ 2 ∷ 8 ∷ 3 ∷ 9 ∷ 5 ∷ 6 ∷ []) $
        enter ! 𝓣.C 𝓣.Λ here (slice_val (b, o) n ∷ w ∷ []) _ $ alloc_all ! (λ l. pass_all ! refl ((tt, (tt, (record { fits = rm.0 }, tt))), (gw, tt)) $
        sets ! (of_opd ! (get ! refl)) refl gw $
        sets ! (addr ! (from ! (fld ! refl (hop ! (look_in_at ! 1 (sub ! 0 refl (whole !))) (stop !))))) refl (tt, tt) $
        sets ! (of_opd ! (get_in ! (fld ! refl (stop !)) (sub ! 1 refl (whole !)))) refl (tt, record { fits = rm.0 }) $
        sets ! (agg ! (no_more !)) refl (tt, tt) $
        sets ! (agg ! (and_then ! (get ! refl) (and_then ! (get ! refl) (and_then ! (get ! refl) (no_more !))))) refl (tt, (tt, (record { fits = rm.0 }, (tt, tt)))) $
        opens_slice ! tt (R E) xs b o $ lft_new ! tt (λ α.
        let κ' : Lft = α ∷ κ₁ in let κs : Lfts 4 = (κ', (κ₃, (κ₁, (κ₂, tt)))) in let a : NamedLft = named_lft 4 0 tt κs in
        -- [α; the row; the open borrow; obs; auth; f; A's token; R's; F's]
        move ! (6 ∷ []) $ use1 𝓛 (‵ (flft κ₁ lq) ⊛ ‵ (flft κ₁ rq)) (𝓛.lfts.lft_split κ₁ q₁) $ split ! $ move ! (2 ∷ []) $
        use1 𝓛 (‵ (flft (α ∷ []) lq) ⊛ raw (wand 𝓤 (A.lft (α ∷ []) lq) (A.lft (α ∷ []) full_share))) (𝓛.lfts.lft_carve α lq) $ split ! $ move ! (0 ∷ 2 ∷ []) $
        use2 𝓛 (‵ (flft κ' lq)) (𝓛.lfts.lft_meet (α ∷ []) κ₁ lq) $
        -- [κ'; α's way back; A's right; the row; the open borrow; obs; auth; f; R's; F's]
        name_new ! tt (code_of xs) (λ γ.
        let new : rg_d E = record { ptr = block_ptr b o; len = n; mark = record {}; name = γ; items = xs; held = replicate n true; small = rm.0 } in
        move ! (5 ∷ []) $ use1 𝓛 (‵ (cells (mem (R E)) xs b o)) (whole_in 𝓛 (R E) xs b o) $ use1 𝓛 (‵ (row_at E b o xs (replicate n true))) (of_cells E 𝓛 b xs o) $
        feq_i ! ℕ (length xs) (length (replicate n true)) (sym (length-replicate n true)) $ fjoin ! $ move ! (0 ∷ 2 ∷ []) $ fjoin ! $
        fpack ! (List (el_x E)) (λ y. fsep (All.own_at y 0 0) (fauth γ (code_of y))) xs $ bor_new ! tt κ' $ move ! (2 ∷ 0 ∷ []) $ fjoin ! $
        rg_made a E ! new b o refl rm.0 rm.1 (length-replicate n true) $
        -- [the region; the right to get it back; κ'; α's way back; A's right; the open borrow; obs; auth; f; R's; F's]
        let passed : Args' callee.signature κs = (f, (new, tt)) in
        let Ok : Type 0 = g.pre f (new, tt) in
        let Two : RattleType = Tuple (Rg a E ∷ param 1 Y.row ∷ []) in
        let y : (Once 𝓛).Ghost = ((κs, (lq, (q₃, (rq, (q₂, tt)))), (meet_⊑_right (α ∷ []) κ₁, tt), passed, (w ∷ [], (rg_val (block_ptr b o) n ∷ [], tt))), tt) in
        nothing ! $ move ! (1 ∷ 0 ∷ []) $ fjoin ! $ move ! (8 ∷ 0 ∷ []) $ fjoin ! $
        nothing ! $ move ! (9 ∷ 0 ∷ []) $ join ! $ move ! (5 ∷ 0 ∷ []) $ join ! $ move ! (8 ∷ 0 ∷ []) $ join ! $ move ! (3 ∷ 0 ∷ []) $ join ! $ join ! $
        use0 𝓛 (raw (fact 𝓤 Ok)) (fact_i 𝓤 Ok (emp 𝓤) (asks new (refl, refl))) $ use0 𝓛 (raw (fact 𝓤 (κ₂ ⊑ Y.row.lives))) (fact_i 𝓤 (κ₂ ⊑ Y.row.lives) (emp 𝓤) inY) $ join ! $
        use0 𝓛 (raw (fact 𝓤 (κ₁ ⊑ E.row.lives))) (fact_i 𝓤 (κ₁ ⊑ E.row.lives) (emp 𝓤) inE) $ join ! $ use0 𝓛 (raw (fact 𝓤 (κ₃ ⊑ Z.row.lives))) (fact_i 𝓤 (κ₃ ⊑ Z.row.lives) (emp 𝓤) inZ) $ join ! $
        move ! (1 ∷ 0 ∷ []) $ join ! $ use1 𝓛 (raw ((Once 𝓛).pre y)) (id⊢ 𝓤 ((Once 𝓛).pre y)) $
        calls_at ! (fm_of 𝓤 H 𝓛.laws 𝓣) (Once 𝓛) met y (and_then ! (get ! refl) (and_then ! (get ! refl) (no_more !))) (λ got.
        use1 𝓛 (later (some (λ (r : Two.Denot). ((‵ (flft κ' lq) ⊛ ‵ (flft κ₃ q₃) ⊛ ‵ (flft κ₁ rq) ⊛ ‵ (flft κ₂ q₂) ⊛ ‵ ftrue) ⊛ ‵ (Two.own_val r (got ∷ [])))
        ⊛ some (λ (ws : Lasts callee κs passed). ‵ (lasts callee κs passed ws) ⊛ raw (fact 𝓤 (g.post f (new, tt) r)))))) (id⊢ 𝓤 ((Once 𝓛).post y got)) $
        await ! tt $ pick ! (λ r. split ! $ move ! (1 ∷ []) $ pick ! (λ ws. split ! $ drop ! $ heard ! (g.post f (new, tt) r) (λ gave.
        let back : rg_d E = r.0 in let ys : List (el_x E) = back.items in
        let same : back.name ≡ γ = gives new r (refl, refl) gave in
        let gp = ptr_Good back.ptr in
        split ! $ move ! (1 ∷ []) $ fpick ! (λ vss. fsplit ! $ feq_l ! (λ e. fsplit3 ! $ peeks ! (Rg a E) (Is (Rg a E)) (shows 𝓛 (Rg a E)) back vss.0 (λ is.
        let e₀ = rg_Tells a E back vss.0 is in rewrite ! 0 (λ (us : List Val). ‵ ((Rg a E).own_val back us)) e₀ refl $ move ! (1 ∷ []) $ tells ! Y r.1 vss.1.0 (λ v e₁ g₁.
        -- [the answer; the region; nothing; the tokens; the right to get it back; α's way back; the open borrow; obs; auth]
        lands_as ! (ap only e ∙ (λ i. vstruct (of_list (e₀ i ++ (e₁ i ++ []))))) refl (both (has_ty ty_ptr (ptr_val back.ptr) && true) (has_ty (layout Y.row) v) gp.0 g₁.0, ((gp.1, (record { fits = back.small }, (tt, tt))), (g₁.1, tt))) $
        sets ! (of_opd ! (get_in ! (fld ! refl (stop !)) (sub ! 0 refl (whole !)))) refl (gp.0, (gp.1, (record { fits = back.small }, (tt, tt)))) $
        sets ! (of_opd ! (get_in ! (fld ! refl (stop !)) (sub ! 1 refl (whole !)))) refl g₁ $
        sets ! (of_opd ! (get ! refl)) refl (gp.0, (gp.1, (record { fits = back.small }, (tt, tt)))) $
        let G = triple_of 𝓛 (END.signature E.row) (END.spec E.row 𝓛 at_mem run) in
        let zE : G.Ghost = (((κ', (κ₁, tt)), (lq, (rq, tt)), (meet_⊑_right (α ∷ []) κ₁, tt), (back, tt), (rg_vals a E back, tt)), tt) in
        move ! (3 ∷ []) $ split3 ! $ move ! (2 ∷ []) $ split3 ! $ move ! (6 ∷ 7 ∷ []) $ fjoin ! $ move ! (1 ∷ 3 ∷ []) $ join ! $ move ! (3 ∷ 0 ∷ []) $ join ! $ join ! $
        nothing ! $ use0 𝓛 (raw (fact 𝓤 (κ₁ ⊑ E.row.lives))) (fact_i 𝓤 (κ₁ ⊑ E.row.lives) (emp 𝓤) inE) $ join ! $ move ! (1 ∷ 0 ∷ []) $ join ! $ use1 𝓛 (raw (G.pre zE)) (id⊢ 𝓤 (G.pre zE)) $
        calls_at ! (fm_of 𝓤 H 𝓛.laws 𝓣) G end_met zE (and_then ! (get ! refl) (no_more !)) (λ ended_at.
        use1 𝓛 (later (some (λ (t : Unit {0}). ((‵ (flft κ' lq) ⊛ ‵ (flft κ₁ rq) ⊛ ‵ ftrue) ⊛ ‵ (unit.own_val t (ended_at ∷ [])))
        ⊛ some (λ (vs : Lasts (END.ended E.row) zE.0.0 zE.0.3). ‵ (lasts (END.ended E.row) zE.0.0 zE.0.3 vs) ⊛ ‵ (fres back.name (code_of ys)))))) (id⊢ 𝓤 (G.post zE ended_at)) $
        await ! tt $ pick ! (λ t. split ! $ move ! (1 ∷ []) $ pick ! (λ vs. split ! $ drop ! $ move ! (1 ∷ []) $ split ! $ move ! (1 ∷ []) $ feq_l ! (λ is_unit.
        lands_as ! (ap only is_unit) refl (tt, tt) $ split3 ! $
        -- [κ'; A's right; nothing; the last value; R's; F's; the answer; the right; α's way back; the open borrow; obs; auth]
        use1 𝓛 (‵ (flft (α ∷ []) lq) ⊛ ‵ (flft κ₁ lq)) (𝓛.lfts.lft_unmeet (α ∷ []) κ₁ lq) $ split ! $ move ! (0 ∷ 9 ∷ []) $
        use2 𝓛 (‵ (flft (α ∷ []) full_share)) (apply∗ 𝓤 (A.lft (α ∷ []) lq) (A.lft (α ∷ []) full_share)) $ lft_end ! tt $ use1 𝓛 (‵ (fdead κ')) (𝓛.lfts.dead-incl κ' (α ∷ []) (meet_⊑_left (α ∷ []) κ₁)) $
        move ! (0 ∷ 8 ∷ []) $ lent_back ! tt $ fpick ! (λ zs. fsplit ! $ move ! (5 ∷ 1 ∷ []) $ rewrite ! 0 (λ (k : GName). ‵ (fres k (code_of ys))) same refl $
        res_agree ! (coded_list (R E).coded) (λ eq. drop ! $ drop ! $ rewrite ! 0 (λ (l : List (el_x E)). ‵ (All.own_at l 0 0)) (sym eq) refl $ fsplit ! $ feq_l ! (λ long.
        let count : length ys ≡ n = long ∙ length-replicate n true in
        use1 𝓛 (‵ (cells (mem (R E)) ys b o)) (to_cells E 𝓛 b ys n o count) $ use1 𝓛 (‵ (row (R E) full_share ys b o)) (whole_out 𝓛 (R E) ys b o) $
        move ! (0 ∷ 7 ∷ 8 ∷ 9 ∷ []) $ closes_slice ! tt (R E) xs ys count b o $
        -- [obs; the borrow; the slice's token; A's left; A's right; nothing; R's; F's; the answer]
        move ! (3 ∷ 4 ∷ []) $ use2 𝓛 (‵ (flft κ₁ q₁)) (𝓛.lfts.lft_join κ₁ q₁) $
        sets ! (of_opd ! (get ! refl)) refl g₁ $ returns ! (look_at ! 0 refl) $ free_all ! refl $
        suffices ! _ (ends_at 𝓛 ended stayed held y₀ v r.1 (ys, (tt, tt)) (count, (tt, tt))) $ says ! (new, back, (refl, refl), gave, refl) $
        move ! (1 ∷ 2 ∷ []) $ fjoin ! $ pure_i ! (mut_slice_at (R E) (record { ref_ptr = (b, o); ghost_name = z.0.3.0.ghost_name; now = ys }) (mut_slice_vals z.0.3.0)) (tt, (tt, tt)) (ap (λ (m : ℕ). slice_val (b, o) m ∷ []) (sym count), subst (Room (R E)) (sym count) rm) $ fjoin ! $
        nothing ! $ nothing ! $ fjoin ! $ move ! (1 ∷ 0 ∷ []) $ fjoin ! $ move ! (0 ∷ 6 ∷ []) $ join ! $
        move ! (5 ∷ 3 ∷ []) $ join ! $ move ! (4 ∷ 0 ∷ []) $ join ! $ move ! (2 ∷ 0 ∷ []) $ join ! $ move ! (2 ∷ 0 ∷ []) $ join ! $ join ! $ done !)))))))))))))))))))))))

    from_values : (z : Bound) → Are (types_at ended.signature.params z.0.0) (Ises (types_at ended.signature.params z.0.0)) z.0.3 z.0.4 → Goes z
    from_values z are =
        let w = one Z z.0.4.1.0 ((lawful Z 𝓛).typed z.0.3.1.0 z.0.4.1.0 are.1.0) in
        subst (λ (uss : Vals ended.signature z.0.0). Goes (at z uss)) (sym (λ k. (are.0.0.0 k, (w.1 k, tt)))) (walk z are.0.0.1 w.0 w.2)

pub with_region_spec : {M : Type 1} → stated.statement M
unfolding tables_of
with_region_spec 𝓤 𝓛 𝓜 𝓡 wired T₀ T₁ T₂ L₀ L₁ L₂ g d d' met _ =
    let E : El = record { row = T₀; laws = L₀ } in let Y : El = record { row = T₁; laws = L₁ } in let Z : El = record { row = T₂; laws = L₂ } in
    proved_at 𝓛 (ended E Y Z g d d') (stayed E Y Z g d d') (F.clauses T₀ T₁ T₂ g d d' 𝓛 𝓜.mem 𝓡.returns) 𝓜 𝓡 (Goes-slice 𝓛 4 0 tt (plain (λ _. R E)), (Goes-dropped 𝓛 4 (plain (λ _. param 2 Z.row)) no (λ κs x f. refl), tt))
    (#self (args E Y Z g d d')) (here E Y Z g d d') (code.unfolded 𝓤 𝓛.H 𝓜 𝓡 wired (T₀, (T₁, (T₂, tt))) d d')
    (from_values E Y Z g d d' 𝓛 𝓜.mem 𝓡.returns (tables_of 𝓤 𝓛.H 𝓜 (tables 𝓤 𝓛.H 𝓜 𝓡 𝓡.env)) met.1 (end_thm.met 𝓤 𝓛 𝓜 𝓡 (code.calls-nd_region::divided_mutable_borrow::Region::end 𝓡.env wired) T₀ L₀))

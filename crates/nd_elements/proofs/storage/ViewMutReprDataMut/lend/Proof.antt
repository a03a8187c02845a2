-- `lend` reborrows the storage's region, so that it keeps its places. Assumes `Logic`.
use Rattle.nd_region.proofs.SeparationLogicImports.{refl, ap, ℕ, List, [], ◌∷◌, Gv, SProp, emp, id⊢, Lft, GName, Share, ftrue, fobs, fbor, flft, Args, Fn, a_type, dnil, named, inst_fn, Val, vptr, ◌⊑◌, Lfts, fact, fact_i, tables, ‵, raw, ◌⊛◌, some, later, ◌$◌, ◌∵◌, !, qed, done, move, drop, keep, use0, use1, use2, split, split3, join, fsplit, fsplit3, fjoin, feq_i, group, pick, await, rewrite, suffices, frame, open_ref, takes_part, Body, enter, addr, stop, fld, no_more, and_then, returns, alloc_all, pass_all, free_all, look_at, get, through, sets, lands_as, Array, RefMutOf, no, follows, follows_then, Lawfuls, mem, bounded, param_laws, RattleType, owns, block_ptr, MutBor, NamedLft, mut_vals, mut_Tells, plain, named_lft, types_at, nothing, heard, only, lawfuls, rows_of, calls_at, Ended, Lasts, lasts, triple_of, framed, Stays, stay_dropped, ends_at, Goes-spent_ref}
use Rattle.std.proofs.raw_atomic.Walks.{proved}
use Rattle.std.proofs.mem.Param.{El, R, el_x}
use Rattle.nd_region.specs.RegionPlaces.{stored_in, overwritten_items}
use Rattle.nd_region.specs.Region.{IsSameMap, with_items}
use Rattle.nd_region.proofs.TruthOfConjunctions.{says_two}
use Rattle.nd_region.proofs.RegionValueAndPlaces.{Rg, rg_d, rg_val, rg_had, rg_made}
use Rattle.nd_region.proofs.divided_mutable_borrow.Region.TheLaws.{the_row_laws as region_laws}
use Rattle.nd_elements.proofs.storage.RegionRepr.TheLaws.{the_loose}
use Rattle.nd_elements.proofs.lending.ReborrowedPlaces as kept
use Rattle.nd_region.specs.contracts.divided_mutable_borrow.Region.reborrow as B
use Rattle.nd_region.proofs.divided_mutable_borrow.Region.reborrow.Met.{met as reborrow_met}
use Rattle.nd_elements.specs.contracts.storage.ViewMutReprDataMut.lend as F
use Rattle.nd_elements.specs.contracts.storage.ViewMutReprDataMut.lend.Key.{name as #self}
use Rattle.nd_elements.proofs.storage.ViewMutReprDataMut.lend.Statement.{statement}
use Rattle.nd_elements.proofs.storage.ViewMutReprDataMut.lend.Code as code

pub lend_spec : {M : Type 1} → statement M
lend_spec 𝓤 𝓛 𝓜 𝓡 wired A lA =
    let H = 𝓛.H in let 𝓣 = tables 𝓤 H 𝓜 𝓡 𝓡.env in
    let E : El = record { row = A; laws = lA } in
    let inst : Args = bounded (a_type ∷ []) (A, tt) dnil in
    let fn : Fn = inst_fn inst code.function in
    let En : Ended = F.ended A in
    let c = F.clauses A 𝓛 𝓜.mem 𝓡.returns in
    let T : RattleType = R E in
    let Row : Lfts 3 → RattleType = λ κs. kept.Row (named_lft 3 1 tt κs) E in
    let hs : Stays En.signature.params En.kept = (stay_dropped (RefMutOf (0 ∷ []) tt (plain (λ κs. Row κs)) (λ _. tt)) no, tt) in
    proved 𝓛 En hs c 𝓜 𝓡 (Goes-spent_ref 𝓛 3 (0 ∷ []) tt (plain (λ κs. Row κs)), tt) (#self inst) fn (code.unfolded 𝓤 H 𝓜 𝓡 wired (A, tt))
    (λ κs. (mut_vals, tt)) (λ κs. (mut_Tells (named 0) κs.0 (Row κs), tt)) (λ κs qs bounds a gh are.
    let κ : Lft = κs.0 in let κ₁ : Lft = κs.1.0 in let κ₂ : Lft = κs.1.1.0 in let q : Share = qs.0 in let q₁ : Share = qs.1.0 in let q₂ : Share = qs.1.1.0 in
    let α : NamedLft = named_lft 3 1 tt κs in let α₀ : NamedLft = named_lft 3 0 tt κs in
    let vs : List Val = mut_vals a.0 in
    let d : (Row κs).Denot = a.0.now in let γ : GName = a.0.ghost_name in let rb : ℕ = a.0.ref_ptr.0 in let ro : ℕ = a.0.ref_ptr.1 in
    let at : ℕ = kept.region_at α E 𝓛 rb ro in
    let Rest : SProp 𝓤 = kept.Outside α E 𝓛 rb ro d in
    let ends : rg_d E → (Row κs).Denot = λ w. record { region = w; tie = d.tie } in
    let c₀ : Gv = (Row κs).coded.code d in
    let lawful : Lawfuls 𝓛 (rows_of (kept.members α E)) = lawfuls 𝓛 (kept.Whole α E).parts (the_loose (Rg α E) (region_laws α T (param_laws 0 A lA))) in
    let B-ended : Ended = B.ended A in
    let B-triple = triple_of 𝓛 (B.signature A) (B.spec A 𝓛 𝓜.mem 𝓡.returns) in
    qed 𝓛 (((‵ (flft κ q) ⊛ ‵ (flft κ₁ q₁) ⊛ ‵ (flft κ₂ q₂) ⊛ ‵ ftrue) ⊛ ‵ (owns (types_at En.signature.params κs) a (vs, tt))) ∷ (raw (fact 𝓤 (κ₂ ⊑ A.lives)) ⊛ ‵ ftrue) ∷ []) ∵
    move ! (1 ∷ []) $ split ! $ heard ! (κ₂ ⊑ A.lives) (λ inA. drop ! $
    split ! $ split3 ! $ move ! (2 ∷ []) $ split ! $ move ! (4 ∷ []) $ fsplit ! $ fsplit3 ! $ keep ! (1 ∷ 2 ∷ 6 ∷ 7 ∷ 4 ∷ []) $
    -- [obs; the borrow; its token; the region's; A's]
    enter ! _ _ _ _ _ $ alloc_all ! (λ l. pass_all ! refl ((tt, tt), tt) $
    sets ! (addr ! (through ! refl (fld ! refl (stop !)))) refl (tt, tt) $
    open_ref ! tt (mem (Row κs)) {x = d} {b = rb} {o = ro} $
    use1 𝓛 (‵ ((mem (Rg α E)).own_at d.region rb at) ⊛ raw Rest) (kept.region_out α E 𝓛 rb ro lawful d) $ split ! $ move ! (2 ∷ 3 ∷ 4 ∷ 0 ∷ 1 ∷ []) $ group ! 5 $
    use1 𝓛 (later (some (λ (γ' : GName). ‵ (fobs γ' ((Rg α E).coded.code d.region)) ⊛ ‵ (fbor κ (Body (mem (Rg α E)) rb at γ')) ⊛ ‵ (flft κ q) ⊛ ‵ (follows (Row κs) (Rg α E) γ γ' ends))))
    (takes_part 𝓛 (mem (Row κs)) (mem (Rg α E)) ends κ q rb ro rb at γ Rest (kept.region_back α E 𝓛 rb ro d) c₀ c₀ d.region) $ await ! tt $ pick ! (λ γ'.
    let s : MutBor (rg_d E) = record { ref_ptr = (rb, at); ghost_name = γ'; now = d.region } in
    let z : B-triple.Ghost = ((κs, qs, bounds, (s, tt), (mut_vals s, tt)), tt) in
    split3 ! $ move ! (2 ∷ []) $ split ! $
    -- [the token; what the storage follows; obs; the region's borrow; the region's token; A's]
    move ! (2 ∷ 3 ∷ []) $ fjoin ! $ feq_i ! (List Val) (mut_vals s) (vptr rb at ∷ []) refl $ fjoin ! $
    nothing ! $ move ! (1 ∷ 0 ∷ []) $ join ! $ nothing ! $ move ! (5 ∷ 0 ∷ []) $ join ! $ move ! (4 ∷ 0 ∷ []) $ join ! $ move ! (2 ∷ 0 ∷ []) $ join ! $ join ! $
    nothing ! $ use0 𝓛 (raw (fact 𝓤 (κ₂ ⊑ A.lives))) (fact_i 𝓤 (κ₂ ⊑ A.lives) (emp 𝓤) inA) $ join ! $ move ! (1 ∷ 0 ∷ []) $ join ! $
    use1 𝓛 (raw (B-triple.pre z)) (id⊢ 𝓤 _) $
    calls_at ! (framed 𝓤 H 𝓜 𝓣) B-triple (reborrow_met 𝓤 𝓛 𝓜 𝓡 (code.calls-nd_region::divided_mutable_borrow::Region::reborrow 𝓡.env wired) A lA) z (and_then ! (get ! refl) (no_more !)) (λ v.
    use1 𝓛 (later (some (λ (x : rg_d E). ((‵ (flft κ q) ⊛ ‵ (flft κ₁ q₁) ⊛ ‵ (flft κ₂ q₂) ⊛ ‵ ftrue) ⊛ ‵ ((Rg α₀ E).own_val x (v ∷ []))) ⊛
    some (λ (us : Lasts B-ended κs (s, tt)). ‵ (lasts B-ended κs (s, tt) us) ⊛ ‵ (follows (Rg α E) (Array T 0) γ' x.name (with_items d.region)) ⊛ raw (fact 𝓤 (IsSameMap d.region x)))))) (id⊢ 𝓤 _) $ await ! tt $ pick ! (λ x.
    split ! $ move ! (1 ∷ []) $ pick ! (λ us. split ! $ drop ! $ split ! $ move ! (1 ∷ []) $ heard ! (IsSameMap d.region x) (λ same.
    -- [what the region follows; the tokens and the new region; what the storage follows]
    move ! (2 ∷ 0 ∷ []) $ use2 𝓛 (‵ (follows (Row κs) (Array T 0) γ x.name (λ ws. ends (with_items d.region ws)))) (follows_then 𝓛 (Row κs) (Rg α E) (Array T 0) ends (with_items d.region) γ γ' x.name) $
    move ! (1 ∷ []) $ split ! $ split3 ! $ move ! (3 ∷ []) $ rg_had α₀ E ! x (v ∷ []) (λ b o at' is fn fit long.
    lands_as ! (ap only is) refl (tt, (tt, (record { fits = fn }, (tt, tt)))) $
    move ! (0 ∷ 1 ∷ []) $ use2 𝓛 (later (some (kept.Kept E 𝓛 κ q b o x.name x.items x.held))) (kept.keeps E 𝓛 κ q b o x.name x.items x.held) $ await ! tt $ pick ! (λ δ. split3 ! $
    let new : rg_d E = record { ptr = x.ptr; len = x.len; mark = x.mark; name = δ; items = x.items; held = x.held; small = x.small } in
    rg_made α₀ E ! new b o at' fn fit long $
    -- [the region; the token; what the list follows; the region's token; A's; what the storage follows]
    move ! (5 ∷ 2 ∷ []) $ use2 𝓛 (‵ (follows (Row κs) (Array T 0) γ δ (λ ws. ends (with_items d.region (overwritten_items x.items ws)))))
    (follows_then 𝓛 (Row κs) (Array T 0) (Array T 0) (λ ws. ends (with_items d.region ws)) (overwritten_items x.items) γ x.name δ) $
    rewrite ! 0 (λ (xs : List (el_x E)). ‵ (follows (Row κs) (Array T 0) γ δ (λ ws. ends (with_items d.region (overwritten_items xs ws))))) same.0 refl $
    returns ! (look_at ! 0 refl) $ free_all ! refl $
    suffices ! _ (ends_at 𝓛 En hs c (((κs, qs, bounds, a, (vs, tt)), gh)) (rg_val (block_ptr b o) x.len) new (tt, tt) (tt, tt)) $
    -- [what follows; the region; the tokens]
    move ! (3 ∷ 4 ∷ []) $ join ! $ move ! (3 ∷ 0 ∷ []) $ join ! $ move ! (0 ∷ 2 ∷ 1 ∷ []) $
    nothing ! $ nothing ! $ fjoin ! $ move ! (0 ∷ 2 ∷ []) $ join ! $ move ! (1 ∷ 0 ∷ []) $ join ! $ frame ! $
    says_two ! ((λ p i. stored_in (same.0 i) (same.1 i) p), same.0) $ done !))))))))))

-- `reborrow` lends all places, and the region follows them. Assumes `Logic`.
use Rattle.nd_region.proofs.SeparationLogicImports.{refl, ℕ, List, [], ◌∷◌, full_share, Fn, named, inst_fn, Val, vptr, SProp, GName, ftrue, flft, ◌⊑◌, fact, tables, Memory, ‵, raw, ◌⊛◌, some, later, ◌$◌, ◌∵◌, !, qed, move, keep, use3, split, split3, join, pick, rewrite, fsplit, fsplit3, fjoin, frame, await, suffices, done, whole, sub, look_in, agg, no_more, and_then, stop, fld, load, of_opd, returns, enter, alloc_all, pass_all, free_all, look_at, get, through, sets, RefMutOf, no, cell_at, owns, block_ptr, NamedLft, mut_vals, mut_Tells, plain, named_lft, types_at, nothing, opens, closes, Ended, says, Stays, stay_dropped, walk_of, ends_at, Goes-spent_ref}
use Rattle.std.proofs.raw_atomic.Walks.{proved}
use Rattle.std.proofs.mem.Param.{El, args}
use Rattle.nd_region.proofs.RegionValueAndPlaces.{Rg, rg_d, rg_val, rg_had, rg_made}
use Rattle.nd_region.proofs.RegionReborrows.{Handed, hands}
use Rattle.nd_region.specs.contracts.divided_mutable_borrow.Region.reborrow as F
use Rattle.nd_region.specs.contracts.divided_mutable_borrow.Region.reborrow.Key.{name as #self}
use Rattle.nd_region.proofs.divided_mutable_borrow.Region.reborrow.Statement as stated
use Rattle.nd_region.proofs.divided_mutable_borrow.Region.reborrow.Code as code

pub reborrow_spec : {M : Type 1} → stated.statement M
reborrow_spec 𝓤 𝓛 𝓜 𝓡 wired X L =
    let H = 𝓛.H in let 𝓣 = tables 𝓤 H 𝓜 𝓡 𝓡.env in let E : El = record { row = X; laws = L } in
    let here : Fn = inst_fn (args E) code.function in let ended : Ended = F.ended X in let held = F.clauses X 𝓛 𝓜.mem 𝓡.returns in
    let stayed : Stays ended.signature.params ended.kept = (stay_dropped (RefMutOf (0 ∷ []) tt (plain (λ κs. Rg (named_lft 3 1 tt κs) E)) (λ _. tt)) no, tt) in
    proved 𝓛 ended stayed held 𝓜 𝓡 (Goes-spent_ref 𝓛 3 (0 ∷ []) tt (plain (λ κs. Rg (named_lft 3 1 tt κs) E)), tt)
    (#self (args E)) here (code.unfolded 𝓤 H 𝓜 𝓡 wired (X, tt)) (λ κs. (mut_vals, tt))
    (λ κs. (mut_Tells (named 0) κs.0 (Rg (named_lft 3 1 tt κs) E), tt)) (λ κs qs bounds a gh are.
    let z : (walk_of 𝓛 ended stayed held).Ghost = ((κs, qs, bounds, a, (mut_vals a.0, tt)), gh) in
    let κ = z.0.0.0 in let κ₁ = z.0.0.1.0 in let κ₂ = z.0.0.1.1.0 in let q = z.0.1.0 in let q₁ = z.0.1.1.0 in let q₂ = z.0.1.1.1.0 in
    let rb : ℕ = z.0.3.0.ref_ptr.0 in let ro : ℕ = z.0.3.0.ref_ptr.1 in let γ : GName = z.0.3.0.ghost_name in let d : rg_d E = z.0.3.0.now in
    let a : NamedLft = named_lft 3 1 tt z.0.0 in
    let Post : Val → SProp 𝓤 = (walk_of 𝓛 ended stayed held).post z in
    qed 𝓛 (((‵ (flft κ q) ⊛ ‵ (flft κ₁ q₁) ⊛ ‵ (flft κ₂ q₂) ⊛ ‵ ftrue) ⊛ ‵ (owns (types_at ended.signature.params z.0.0) z.0.3 z.0.4)) ∷ (raw (fact 𝓤 (κ₂ ⊑ E.row.lives)) ⊛ ‵ ftrue) ∷ []) ∵
    split ! $ split3 ! $ move ! (2 ∷ []) $ split ! $ move ! (4 ∷ []) $ fsplit ! $ fsplit3 ! $ keep ! (1 ∷ 2 ∷ 6 ∷ 7 ∷ 4 ∷ []) $
    -- [obs; the borrow; the `&mut`'s token; the region's; A's]
    enter ! 𝓣.C 𝓣.Λ here (vptr rb ro ∷ []) _ $ alloc_all ! (λ l. pass_all ! refl ((tt, tt), tt) $
    opens ! tt (Rg a E) {h = d} rb ro (λ vs. move ! (1 ∷ []) $ rg_had a E ! d vs (λ b o at is fn fit long.
    rewrite ! 1 (λ (ws : List Val). ‵ (cell_at full_share (Rg a E).mir ws rb ro)) is refl $
    sets ! (of_opd ! (load ! (through ! refl (fld ! refl (stop !))) (look_in ! 1 (sub ! 0 refl (whole !))))) refl (tt, tt) $
    sets ! (of_opd ! (load ! (through ! refl (fld ! refl (stop !))) (look_in ! 1 (sub ! 1 refl (whole !))))) refl (tt, record { fits = fn }) $
    sets ! (agg ! (no_more !)) refl (tt, tt) $
    sets ! (agg ! (and_then ! (get ! refl) (and_then ! (get ! refl) (and_then ! (get ! refl) (no_more !))))) refl (tt, (tt, (record { fits = fn }, (tt, tt)))) $
    rg_made a E ! d b o at fn fit long $ move ! (1 ∷ 0 ∷ []) $ closes ! tt (Rg a E) d (rg_val (block_ptr b o) d.len ∷ []) rb ro $
    use3 𝓛 (later (some (Handed a E 𝓛 κ q rb ro γ d b o))) (hands a E 𝓛 κ q rb ro γ d b o at fit long z.0.2.0) $ await ! tt $ pick ! (λ δ. split3 ! $
    let new : rg_d E = record { ptr = block_ptr b o; len = d.len; mark = record {}; name = δ; items = d.items; held = d.held; small = fn } in
    rg_made (named_lft 3 0 tt z.0.0) E ! new b o refl fn fit long $
    returns ! (look_at ! 0 refl) $ free_all ! refl $
    suffices ! _ (ends_at 𝓛 ended stayed held z (rg_val (block_ptr b o) d.len) new (tt, tt) (tt, tt)) $
    nothing ! $ nothing ! $ fjoin ! $ join ! $ nothing ! $ move ! (5 ∷ 0 ∷ []) $ join ! $ move ! (4 ∷ 0 ∷ []) $ join ! $ move ! (2 ∷ 0 ∷ []) $ join ! $ join ! $ frame ! $ says ! (refl, refl) $ done !)))))

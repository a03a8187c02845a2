-- `shortened` keeps the borrow, for a time that it outlives. Assumes `Logic`.
use Rattle.nd_region.proofs.SeparationLogicImports.{refl, sym, [], ◌∷◌, Fn, inst_fn, ftrue, flft, fbor, ◌⊑◌, fact, tables, Memory, Body, ‵, raw, ◌⊛◌, ◌$◌, ◌∵◌, !, qed, move, keep, use1, split, split3, join, fsplit, fjoin, rewrite, suffices, done, of_opd, returns, enter, alloc_all, pass_all, free_all, look_at, get, sets, no, owns, Ptr, block_ptr, NamedLft, plain, named_lft, types_at, nothing, Ended, says, Stays, stay_dropped, walk_of, ends_at, Goes-dropped}
use Rattle.std.proofs.raw_atomic.Walks.{proved}
use Rattle.std.proofs.mem.Param.{El, R, args}
use Rattle.nd_region.specs.RegionMemory.{Spots}
use Rattle.nd_region.proofs.RegionValueAndPlaces.{Rg, rg_d, rg_val, rg_vals, rg_Tells, rg_had, rg_made, ptr_Good}
use Rattle.nd_region.specs.contracts.divided_mutable_borrow.Region.shortened as F
use Rattle.nd_region.specs.contracts.divided_mutable_borrow.Region.shortened.Key.{name as #self}
use Rattle.nd_region.proofs.divided_mutable_borrow.Region.shortened.Statement as stated
use Rattle.nd_region.proofs.divided_mutable_borrow.Region.shortened.Code as code

pub shortened_spec : {M : Type 1} → stated.statement M
shortened_spec 𝓤 𝓛 𝓜 𝓡 wired X L =
    let H = 𝓛.H in let 𝓣 = tables 𝓤 H 𝓜 𝓡 𝓡.env in let E : El = record { row = X; laws = L } in
    let here : Fn = inst_fn (args E) code.function in let ended : Ended = F.ended X in let held = F.clauses X 𝓛 𝓜.mem 𝓡.returns in
    let stayed : Stays ended.signature.params ended.kept = (stay_dropped (plain (λ κs. Rg (named_lft 3 0 tt κs) E)) no, tt) in
    proved 𝓛 ended stayed held 𝓜 𝓡 (Goes-dropped 𝓛 3 (plain (λ κs. Rg (named_lft 3 0 tt κs) E)) no (λ κs x f. refl), tt)
    (#self (args E)) here (code.unfolded 𝓤 H 𝓜 𝓡 wired (X, tt)) (λ κs. (rg_vals (named_lft 3 0 tt κs) E, tt))
    (λ κs. (rg_Tells (named_lft 3 0 tt κs) E, tt)) (λ κs qs bounds a gh are.
    let z : (walk_of 𝓛 ended stayed held).Ghost = ((κs, qs, bounds, a, (rg_vals (named_lft 3 0 tt κs) E a.0, tt)), gh) in
    let κ = z.0.0.0 in let κ₁ = z.0.0.1.0 in let κ₂ = z.0.0.1.1.0 in let q = z.0.1.0 in let q₁ = z.0.1.1.0 in let q₂ = z.0.1.1.1.0 in
    let d : rg_d E = z.0.3.0 in let a : NamedLft = named_lft 3 0 tt z.0.0 in let c : NamedLft = named_lft 3 1 tt z.0.0 in
    qed 𝓛 (((‵ (flft κ q) ⊛ ‵ (flft κ₁ q₁) ⊛ ‵ (flft κ₂ q₂) ⊛ ‵ ftrue) ⊛ ‵ (owns (types_at ended.signature.params z.0.0) z.0.3 z.0.4)) ∷ (raw (fact 𝓤 (κ₂ ⊑ E.row.lives)) ⊛ ‵ ftrue) ∷ []) ∵
    split ! $ split3 ! $ move ! (2 ∷ []) $ split ! $ move ! (4 ∷ []) $ fsplit ! $ keep ! (0 ∷ 4 ∷ 5 ∷ 2 ∷ []) $
    -- [the region; its token; the shorter one; A's]
    enter ! 𝓣.C 𝓣.Λ here (rg_vals a E d) _ $ alloc_all ! (λ l. pass_all ! refl (((ptr_Good d.ptr).0, ((ptr_Good d.ptr).1, (record { fits = d.small }, (tt, tt)))), tt) $
    rg_had a E ! d (rg_vals a E d) (λ b o at is fn fit long. fsplit ! $ move ! (1 ∷ []) $
    use1 𝓛 (‵ (fbor κ₁ (Body (Spots (R E) (block_ptr b o) d.held) 0 0 d.name))) (𝓛.bors.bor_shorten κ κ₁ (Body (Spots (R E) (block_ptr b o) d.held) 0 0 d.name) z.0.2.0) $ move ! (1 ∷ 0 ∷ []) $ fjoin ! $
    rg_made c E ! d b o at fn fit long $ rewrite ! 0 (λ (p : Ptr). ‵ ((Rg c E).own_val d (rg_val p d.len ∷ []))) (sym at) refl $
    sets ! (of_opd ! (get ! refl)) refl ((ptr_Good d.ptr).0, ((ptr_Good d.ptr).1, (record { fits = d.small }, (tt, tt)))) $ returns ! (look_at ! 0 refl) $ free_all ! refl $
    suffices ! _ (ends_at 𝓛 ended stayed held z (rg_val d.ptr d.len) d (tt, tt) (tt, tt)) $ says ! refl $
    nothing ! $ nothing ! $ fjoin ! $ join ! $ nothing ! $ move ! (4 ∷ 0 ∷ []) $ join ! $ move ! (3 ∷ 0 ∷ []) $ join ! $ move ! (2 ∷ 0 ∷ []) $ join ! $ join ! $ done !)))

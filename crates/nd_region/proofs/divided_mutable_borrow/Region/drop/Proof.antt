-- `drop` gives the borrow up at the elements that it holds. Assumes `Logic`.
use Rattle.nd_region.proofs.SeparationLogicImports.{refl, List, [], ◌∷◌, Args, Fn, a_type, dnil, dcons, bounded, inst_fn, Val, vunit, Lft, Share, ftrue, flft, ◌⊑◌, fact, tables, Memory, name_done, feq_i, ‵, raw, ◌⊛◌, ◌$◌, ◌∵◌, !, qed, move, keep, split, split3, join, fsplit, fjoin, suffices, done, of_opd, unit_lit, returns, enter, alloc_all, pass_all, free_all, look_at, sets, no, owns, NamedLft, plain, named_lft, types_at, nothing, Ended, Stays, stay_dropped, walk_of, ends_at, Goes-dropped}
use Rattle.std.proofs.raw_atomic.Walks.{proved}
use Rattle.std.proofs.mem.Param.{El}
use Rattle.nd_region.proofs.RegionValueAndPlaces.{Rg, rg_d, rg_vals, rg_Tells, rg_had, ptr_Good}
use Rattle.nd_region.specs.contracts.divided_mutable_borrow.Region.drop as F
use Rattle.nd_region.specs.contracts.divided_mutable_borrow.Region.drop.Key.{name as #self}
use Rattle.nd_region.proofs.divided_mutable_borrow.Region.drop.Statement as stated
use Rattle.nd_region.proofs.divided_mutable_borrow.Region.drop.Code as code

pub drop_spec : {M : Type 1} → stated.statement M
drop_spec 𝓤 𝓛 𝓜 𝓡 wired X L dd _ =
    let H = 𝓛.H in let 𝓣 = tables 𝓤 H 𝓜 𝓡 𝓡.env in let E : El = record { row = X; laws = L } in
    let drop_args : Args = bounded (a_type ∷ []) (X, tt) (dcons dd dnil) in
    let here : Fn = inst_fn drop_args code.function in let ended : Ended = F.ended X dd in let held = F.clauses X dd 𝓛 𝓜.mem 𝓡.returns in
    let stayed : Stays ended.signature.params ended.kept = (stay_dropped (plain (λ κs. Rg (named_lft 2 0 tt κs) E)) no, tt) in
    proved 𝓛 ended stayed held 𝓜 𝓡 (Goes-dropped 𝓛 2 (plain (λ κs. Rg (named_lft 2 0 tt κs) E)) no (λ κs x f. refl), tt)
    (#self drop_args) here (code.unfolded 𝓤 H 𝓜 𝓡 wired (X, tt) dd) (λ κs. (rg_vals (named_lft 2 0 tt κs) E, tt)) (λ κs. (rg_Tells (named_lft 2 0 tt κs) E, tt)) (λ κs qs bounds a gh are.
    let κ : Lft = κs.0 in let κA : Lft = κs.1.0 in let q : Share = qs.0 in let qA : Share = qs.1.0 in
    let d : rg_d E = a.0 in let z : (walk_of 𝓛 ended stayed held).Ghost = ((κs, qs, bounds, a, (rg_vals (named_lft 2 0 tt κs) E d, tt)), gh) in let a : NamedLft = named_lft 2 0 tt κs in
    qed 𝓛 (((‵ (flft κ q) ⊛ ‵ (flft κA qA) ⊛ ‵ ftrue) ⊛ ‵ (owns (types_at ended.signature.params κs) (d, tt) z.0.4)) ∷ (raw (fact 𝓤 (κA ⊑ E.row.lives)) ⊛ ‵ ftrue) ∷ []) ∵
    split ! $ split3 ! $ move ! (3 ∷ []) $ fsplit ! $ keep ! (0 ∷ 2 ∷ 3 ∷ []) $
    enter ! 𝓣.C 𝓣.Λ here (rg_vals a E d) _ $ alloc_all ! (λ l. pass_all ! refl (((ptr_Good d.ptr).0, ((ptr_Good d.ptr).1, (record { fits = d.small }, (tt, tt)))), tt) $
    rg_had a E ! d (rg_vals a E d) (λ b o at is fn fit long. fsplit ! $ name_done ! tt $
    sets ! (of_opd ! (unit_lit !)) refl (tt, tt) $ returns ! (look_at ! 0 refl) $ free_all ! refl $ keep ! (2 ∷ 3 ∷ 0 ∷ []) $
    suffices ! _ (ends_at 𝓛 ended stayed held z vunit tt (tt, tt) (tt, tt)) $
    feq_i ! (List Val) (vunit ∷ []) (vunit ∷ []) refl $ nothing ! $ nothing ! $ fjoin ! $ join ! $ nothing ! $ move ! (3 ∷ 0 ∷ []) $ join ! $ move ! (2 ∷ 0 ∷ []) $ join ! $ join ! $ done !)))

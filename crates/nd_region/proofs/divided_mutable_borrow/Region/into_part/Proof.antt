-- `into_part` keeps of the region's places those that the layout names, and its borrow keeps the others. Assumes `Logic`.
use Rattle.nd_region.proofs.SeparationLogicImports.{◌≡◌, refl, sym, ◌∙◌, Bool, ℕ, [], ◌∷◌, length, Fn, w64, named, inst_fn, vint, ftrue, flft, ◌⊑◌, fact, tables, Memory, ‵, raw, ◌⊛◌, some, later, ◌$◌, ◌∵◌, !, qed, move, keep, use2, split, split3, join, pick, rewrite, fsplit, fjoin, frame, await, suffices, done, of_opd, returns, enter, alloc_all, pass_all, free_all, look_at, get, sets, usize, isize, SliceRefOf, yes, no, uint_vals, uint_Tells, owns, Ptr, NamedLft, slice_val, shr_slice_vals, shr_slice_Tells, plain, named_lft, types_at, nothing, Ended, says, Stays, stay_dropped, walk_of, ends_at, Goes-dropped}
use Rattle.std.proofs.raw_atomic.Walks.{proved}
use Rattle.std.proofs.mem.Param.{El, args}
use Rattle.nd_region.specs.Region.{HasPlaces}
use Rattle.nd_region.specs.RegionPlaces.{kept_where}
use Rattle.nd_region.proofs.RegionValueAndPlaces.{Rg, rg_d, rg_val, rg_vals, rg_Tells, rg_had, rg_made, ptr_Good}
use Rattle.nd_region.proofs.RegionReborrows.{kept_length}
use Rattle.nd_region.proofs.PartLoans.{PartLent, lends_part}
use Rattle.nd_region.proofs.MovedAndKeptPlaces.{goes_on_with}
use Rattle.nd_region.specs.contracts.divided_mutable_borrow.Region.into_part as F
use Rattle.nd_region.specs.contracts.divided_mutable_borrow.Region.into_part.Key.{name as #self}
use Rattle.nd_region.proofs.divided_mutable_borrow.Region.into_part.Statement as stated
use Rattle.nd_region.proofs.divided_mutable_borrow.Region.into_part.Code as code

pub into_part_spec : {M : Type 1} → stated.statement M
into_part_spec 𝓤 𝓛 𝓜 𝓡 wired X L =
    let H = 𝓛.H in let 𝓣 = tables 𝓤 H 𝓜 𝓡 𝓡.env in let E : El = record { row = X; laws = L } in
    let here : Fn = inst_fn (args E) code.function in let ended : Ended = F.ended X in let held = F.clauses X 𝓛 𝓜.mem 𝓡.returns in
    let stayed : Stays ended.signature.params ended.kept = (stay_dropped (plain (λ κs. Rg (named_lft 4 0 tt κs) E)) no, (stay_dropped (plain (λ _. usize)) yes, (stay_dropped (SliceRefOf (1 ∷ []) tt (plain (λ _. usize)) (λ _. tt)) yes, (stay_dropped (SliceRefOf (2 ∷ []) tt (plain (λ _. isize)) (λ _. tt)) yes, tt)))) in
    proved 𝓛 ended stayed held 𝓜 𝓡 (Goes-dropped 𝓛 4 (plain (λ κs. Rg (named_lft 4 0 tt κs) E)) no (λ κs x f. refl), (Goes-dropped 𝓛 4 (plain (λ _. usize)) yes (λ κs x f. refl), (Goes-dropped 𝓛 4 (SliceRefOf (1 ∷ []) tt (plain (λ _. usize)) (λ _. tt)) yes (λ κs x f. refl), (Goes-dropped 𝓛 4 (SliceRefOf (2 ∷ []) tt (plain (λ _. isize)) (λ _. tt)) yes (λ κs x f. refl), tt))))
    (#self (args E)) here (code.unfolded 𝓤 H 𝓜 𝓡 wired (X, tt)) (λ κs. (rg_vals (named_lft 4 0 tt κs) E, (uint_vals w64, (shr_slice_vals, (shr_slice_vals, tt)))))
    (λ κs. (rg_Tells (named_lft 4 0 tt κs) E, (uint_Tells w64, (shr_slice_Tells (named 1) κs.1.0 usize, (shr_slice_Tells (named 2) κs.1.1.0 isize, tt))))) (λ κs qs bounds a gh are.
    let z : (walk_of 𝓛 ended stayed held).Ghost = ((κs, qs, bounds, a, (rg_vals (named_lft 4 0 tt κs) E a.0, (uint_vals w64 a.1.0, (shr_slice_vals a.1.1.0, (shr_slice_vals a.1.1.1.0, tt))))), gh) in
    let κ = z.0.0.0 in let κ₁ = z.0.0.1.0 in let κ₂ = z.0.0.1.1.0 in let κ₃ = z.0.0.1.1.1.0 in
    let q = z.0.1.0 in let q₁ = z.0.1.1.0 in let q₂ = z.0.1.1.1.0 in let q₃ = z.0.1.1.1.1.0 in
    let d : rg_d E = z.0.3.0 in let a : NamedLft = named_lft 4 0 tt z.0.0 in
    let g : ℕ → Bool = goes_on_with z.0.3.1.0 z.0.3.1.1.0.now z.0.3.1.1.1.0.now in
    let Asks : Type 0 = length z.0.3.1.1.0.now ≡ length z.0.3.1.1.1.0.now in let Within : Type 0 = HasPlaces d z.0.3.1.0 z.0.3.1.1.0.now z.0.3.1.1.1.0.now in
    qed 𝓛 (((‵ (flft κ q) ⊛ ‵ (flft κ₁ q₁) ⊛ ‵ (flft κ₂ q₂) ⊛ ‵ (flft κ₃ q₃) ⊛ ‵ ftrue) ⊛ ‵ (owns (types_at ended.signature.params z.0.0) z.0.3 z.0.4))
    ∷ (raw (fact 𝓤 (κ₃ ⊑ E.row.lives)) ⊛ raw (fact 𝓤 Asks) ⊛ raw (fact 𝓤 Within)) ∷ []) ∵
    split ! $ split3 ! $ move ! (2 ∷ []) $ split3 ! $ move ! (5 ∷ []) $ fsplit ! $ keep ! (0 ∷ 5 ∷ 6 ∷ 2 ∷ 3 ∷ []) $
    -- [the region; its token; the two slices'; A's]
    enter ! 𝓣.C 𝓣.Λ here (rg_val d.ptr d.len ∷ vint w64 z.0.3.1.0 ∷ slice_val z.0.3.1.1.0.ref_ptr (length z.0.3.1.1.0.now) ∷ slice_val z.0.3.1.1.1.0.ref_ptr (length z.0.3.1.1.1.0.now) ∷ []) _ $
    alloc_all ! (λ l. pass_all ! refl (((ptr_Good d.ptr).0, ((ptr_Good d.ptr).1, (record { fits = d.small }, (tt, tt)))), ((tt, record { fits = are.1.0.1 }), ((tt, (tt, (record { fits = are.1.1.0.0.1.0 }, tt))), ((tt, (tt, (record { fits = are.1.1.1.0.0.1.0 }, tt))), tt)))) $
    rg_had a E ! d (rg_vals a E d) (λ b o at is fn fit long.
    use2 𝓛 (later (some (PartLent E 𝓛 b κ q o d.name d.items d.held g))) (lends_part E 𝓛 b κ q o d.name d.items d.held g) $ await ! tt $ pick ! (λ δ. split3 ! $
    let new : rg_d E = record { ptr = d.ptr; len = d.len; mark = d.mark; name = δ; items = d.items; held = kept_where g d.held; small = d.small } in
    rg_made a E ! new b o at fn fit (kept_length g d.held ∙ long) $ rewrite ! 0 (λ (p : Ptr). ‵ ((Rg a E).own_val new (rg_val p d.len ∷ []))) (sym at) refl $
    sets ! (of_opd ! (get ! refl)) refl ((ptr_Good d.ptr).0, ((ptr_Good d.ptr).1, (record { fits = d.small }, (tt, tt)))) $ returns ! (look_at ! 0 refl) $ free_all ! refl $
    suffices ! _ (ends_at 𝓛 ended stayed held z (rg_val d.ptr d.len) new (tt, (tt, (tt, (tt, tt)))) (tt, (tt, (tt, (tt, tt))))) $
    -- [the part; the region's token; what its borrow follows; the two slices' tokens; A's]
    nothing ! $ nothing ! $ fjoin ! $ nothing ! $ fjoin ! $ nothing ! $ fjoin ! $ nothing ! $ fjoin ! $ join ! $
    nothing ! $ move ! (6 ∷ 0 ∷ []) $ join ! $ move ! (5 ∷ 0 ∷ []) $ join ! $ move ! (4 ∷ 0 ∷ []) $ join ! $ move ! (2 ∷ 0 ∷ []) $ join ! $ join ! $ frame ! $ says ! (refl, refl) $ done !))))

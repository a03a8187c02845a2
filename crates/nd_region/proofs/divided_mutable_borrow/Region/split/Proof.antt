-- `split` cuts the region's places in two, and its borrow follows both parts. Assumes `Logic`.
use Rattle.nd_region.proofs.SeparationLogicImports.{◌≡◌, refl, ◌∙◌, Bool, ℕ, List, [], ◌∷◌, length, full_share, Fn, w64, named, inst_fn, Val, vint, vptr, GName, ftrue, flft, ◌⊑◌, fact, tables, Memory, ‵, raw, ◌⊛◌, some, later, ◌$◌, ◌∵◌, !, qed, move, keep, use2, split, split3, join, pick, rewrite, fsplit, fsplit3, fjoin, fjoin3, feq_i, frame, await, suffices, done, whole, sub, look_in, agg, no_more, and_then, stop, fld, load, of_opd, returns, enter, alloc_all, pass_all, free_all, look_at, get, through, sets, usize, isize, SliceRefOf, yes, both_by, cell_at, uint_vals, uint_Tells, owns, block_ptr, NamedLft, mut_vals, mut_Tells, slice_val, shr_slice_vals, shr_slice_Tells, plain, named_lft, types_at, nothing, opens, closes, Ended, Stays, stay_ref, stay_dropped, walk_of, ends_at, Goes-dropped, Goes-ref}
use Rattle.std.proofs.raw_atomic.Walks.{proved}
use Rattle.std.proofs.mem.Param.{El, args}
use Rattle.nd_region.specs.Region.{HasPlaces}
use Rattle.nd_region.specs.RegionPlaces.{kept_where}
use Rattle.nd_region.proofs.TruthOfConjunctions.{says_two}
use Rattle.nd_region.proofs.RegionValueAndPlaces.{Rg, rg_d, rg_val, rg_had, rg_made}
use Rattle.nd_region.proofs.RegionReborrows.{Cut, cuts, kept_length}
use Rattle.nd_region.proofs.MovedAndKeptPlaces.{moves, leaves}
use Rattle.nd_region.specs.contracts.divided_mutable_borrow.Region.split as F
use Rattle.nd_region.specs.contracts.divided_mutable_borrow.Region.split.Key.{name as #self}
use Rattle.nd_region.proofs.divided_mutable_borrow.Region.split.Statement as stated
use Rattle.nd_region.proofs.divided_mutable_borrow.Region.split.Code as code

pub split_spec : {M : Type 1} → stated.statement M
unfolding both_by
split_spec 𝓤 𝓛 𝓜 𝓡 wired X L =
    let H = 𝓛.H in let 𝓣 = tables 𝓤 H 𝓜 𝓡 𝓡.env in let E : El = record { row = X; laws = L } in
    let here : Fn = inst_fn (args E) code.function in let ended : Ended = F.ended X in let held = F.clauses X 𝓛 𝓜.mem 𝓡.returns in
    let stayed : Stays ended.signature.params ended.kept = (stay_ref (0 ∷ []) tt (plain (λ κs. Rg (named_lft 5 1 tt κs) E)), (stay_dropped (plain (λ _. usize)) yes, (stay_dropped (SliceRefOf (2 ∷ []) tt (plain (λ _. usize)) (λ _. tt)) yes, (stay_dropped (SliceRefOf (3 ∷ []) tt (plain (λ _. isize)) (λ _. tt)) yes, tt)))) in
    proved 𝓛 ended stayed held 𝓜 𝓡 (Goes-ref 𝓛 5 0 tt (plain (λ κs. Rg (named_lft 5 1 tt κs) E)), (Goes-dropped 𝓛 5 (plain (λ _. usize)) yes (λ κs x f. refl), (Goes-dropped 𝓛 5 (SliceRefOf (2 ∷ []) tt (plain (λ _. usize)) (λ _. tt)) yes (λ κs x f. refl), (Goes-dropped 𝓛 5 (SliceRefOf (3 ∷ []) tt (plain (λ _. isize)) (λ _. tt)) yes (λ κs x f. refl), tt))))
    (#self (args E)) here (code.unfolded 𝓤 H 𝓜 𝓡 wired (X, tt)) (λ κs. (mut_vals, (uint_vals w64, (shr_slice_vals, (shr_slice_vals, tt)))))
    (λ κs. (mut_Tells (named 0) κs.0 (Rg (named_lft 5 1 tt κs) E), (uint_Tells w64, (shr_slice_Tells (named 2) κs.1.1.0 usize, (shr_slice_Tells (named 3) κs.1.1.1.0 isize, tt))))) (λ κs qs bounds a gh are.
    let z : (walk_of 𝓛 ended stayed held).Ghost = ((κs, qs, bounds, a, (mut_vals a.0, (uint_vals w64 a.1.0, (shr_slice_vals a.1.1.0, (shr_slice_vals a.1.1.1.0, tt))))), gh) in
    let κ = z.0.0.0 in let κ₁ = z.0.0.1.0 in let κ₂ = z.0.0.1.1.0 in let κ₃ = z.0.0.1.1.1.0 in let κ₄ = z.0.0.1.1.1.1.0 in
    let q = z.0.1.0 in let q₁ = z.0.1.1.0 in let q₂ = z.0.1.1.1.0 in let q₃ = z.0.1.1.1.1.0 in let q₄ = z.0.1.1.1.1.1.0 in
    let rb : ℕ = z.0.3.0.ref_ptr.0 in let ro : ℕ = z.0.3.0.ref_ptr.1 in let γ : GName = z.0.3.0.ghost_name in let d : rg_d E = z.0.3.0.now in
    let g : ℕ → Bool = moves z.0.3.1.0 z.0.3.1.1.0.now z.0.3.1.1.1.0.now in let h : ℕ → Bool = leaves z.0.3.1.0 z.0.3.1.1.0.now z.0.3.1.1.1.0.now in
    let a : NamedLft = named_lft 5 1 tt z.0.0 in
    let Asks : Type 0 = length z.0.3.1.1.0.now ≡ length z.0.3.1.1.1.0.now in let Within : Type 0 = HasPlaces d z.0.3.1.0 z.0.3.1.1.0.now z.0.3.1.1.1.0.now in
    qed 𝓛 (((‵ (flft κ q) ⊛ ‵ (flft κ₁ q₁) ⊛ ‵ (flft κ₂ q₂) ⊛ ‵ (flft κ₃ q₃) ⊛ ‵ (flft κ₄ q₄) ⊛ ‵ ftrue) ⊛ ‵ (owns (types_at ended.signature.params z.0.0) z.0.3 z.0.4))
    ∷ (raw (fact 𝓤 (κ₄ ⊑ E.row.lives)) ⊛ raw (fact 𝓤 Asks) ⊛ raw (fact 𝓤 Within)) ∷ []) ∵
    split ! $ split3 ! $ move ! (2 ∷ []) $ split3 ! $ move ! (2 ∷ []) $ split ! $
    -- [A's token; nothing; the two slices'; the `&mut`'s; the region's; the arguments; what was asked]
    move ! (6 ∷ []) $ fsplit ! $ fsplit3 ! $ keep ! (1 ∷ 2 ∷ 8 ∷ 9 ∷ 6 ∷ 7 ∷ 4 ∷ []) $
    -- [obs; the borrow; the `&mut`'s token; the region's; the two slices'; A's]
    enter ! 𝓣.C 𝓣.Λ here (vptr rb ro ∷ vint w64 z.0.3.1.0 ∷ slice_val z.0.3.1.1.0.ref_ptr (length z.0.3.1.1.0.now) ∷ slice_val z.0.3.1.1.1.0.ref_ptr (length z.0.3.1.1.1.0.now) ∷ []) _ $
    alloc_all ! (λ l. pass_all ! refl ((tt, tt), ((tt, record { fits = are.1.0.1 }), ((tt, (tt, (record { fits = are.1.1.0.0.1.0 }, tt))), ((tt, (tt, (record { fits = are.1.1.1.0.0.1.0 }, tt))), tt)))) $
    opens ! tt (Rg a E) {h = d} rb ro (λ vs. move ! (1 ∷ []) $ rg_had a E ! d vs (λ b o at is fn fit long.
    rewrite ! 1 (λ (ws : List Val). ‵ (cell_at full_share (Rg a E).mir ws rb ro)) is refl $
    sets ! (of_opd ! (load ! (through ! refl (fld ! refl (stop !))) (look_in ! 1 (sub ! 0 refl (whole !))))) refl (tt, tt) $
    sets ! (of_opd ! (load ! (through ! refl (fld ! refl (stop !))) (look_in ! 1 (sub ! 1 refl (whole !))))) refl (tt, record { fits = fn }) $
    sets ! (agg ! (no_more !)) refl (tt, tt) $
    sets ! (agg ! (and_then ! (get ! refl) (and_then ! (get ! refl) (and_then ! (get ! refl) (no_more !))))) refl (tt, (tt, (record { fits = fn }, (tt, tt)))) $
    move ! (0 ∷ 5 ∷ []) $ use2 𝓛 (later (some (Cut E 𝓛 b κ₁ q₁ o d.name d.items d.held g))) (cuts E 𝓛 b κ₁ q₁ o d.name d.items d.held g) $ await ! tt $ pick ! (λ γs. split3 ! $ move ! (2 ∷ []) $ split ! $
    -- [the region's token; what its borrow follows; the parts; the region's cell; ..]
    let taken : rg_d E = record { ptr = block_ptr b o; len = d.len; mark = record {}; name = γs.0; items = d.items; held = kept_where g d.held; small = fn } in
    let left : rg_d E = record { ptr = d.ptr; len = d.len; mark = d.mark; name = γs.1; items = d.items; held = kept_where h d.held; small = d.small } in
    move ! (2 ∷ []) $ rg_made a E ! taken b o refl fn fit (kept_length g d.held ∙ long) $
    move ! (3 ∷ []) $ rg_made a E ! left b o at fn fit (kept_length h d.held ∙ long) $
    move ! (4 ∷ 0 ∷ 5 ∷ 6 ∷ 7 ∷ []) $ closes ! tt (Rg a E) left (rg_val (block_ptr b o) d.len ∷ []) rb ro $
    -- [obs; the borrow; the `&mut`'s token; the part; the region's token; what its borrow follows; the two slices' tokens; A's]
    returns ! (look_at ! 0 refl) $ free_all ! refl $
    suffices ! _ (ends_at 𝓛 ended stayed held z (rg_val (block_ptr b o) d.len) taken (left, (tt, (tt, (tt, tt)))) (tt, (tt, (tt, (tt, tt))))) $
    feq_i ! (List Val) (vptr rb ro ∷ []) (vptr rb ro ∷ []) refl $ fjoin3 ! $ nothing ! $ nothing ! $ fjoin ! $ nothing ! $ fjoin ! $ nothing ! $ fjoin ! $ move ! (1 ∷ 0 ∷ []) $ fjoin ! $ move ! (0 ∷ 2 ∷ []) $ join ! $
    nothing ! $ move ! (7 ∷ 0 ∷ []) $ join ! $ move ! (6 ∷ 0 ∷ []) $ join ! $ move ! (5 ∷ 0 ∷ []) $ join ! $ move ! (3 ∷ 0 ∷ []) $ join ! $ move ! (2 ∷ 0 ∷ []) $ join ! $ join ! $ frame ! $
    says_two ! ((refl, refl), (refl, refl)) $ done !)))))

-- `from_slice` takes a slice's elements as places, and the slice follows them. Assumes `Logic`.
use Rattle.nd_region.proofs.SeparationLogicImports.{refl, true, ℕ, List, [], ◌∷◌, length, replicate, length-replicate, Fn, named, inst_fn, coded_list, Lft, GName, Share, ftrue, flft, fobs, ◌⊑◌, fact, tables, Memory, ‵, raw, ◌⊛◌, some, later, ◌$◌, ◌∵◌, !, qed, move, keep, use3, split, split3, join, pick, rewrite, fsplit, fsplit3, fjoin, frame, await, suffices, done, whole, sub, agg, stop, fld, hop, from, addr, no_more, and_then, of_opd, returns, enter, alloc_all, pass_all, free_all, look_at, look_in_at, get, get_in, sets, no, heres_id, owns, block_ptr, MutBor, NamedLft, plain, mut_slice_of, named_lft, types_at, slice_val, mut_slice_vals, mut_slice_Tells, nothing, Ended, says, Stays, stay_dropped, walk_of, ends_at, Goes-spent_slice}
use Rattle.std.proofs.raw_atomic.Walks.{proved}
use Rattle.std.proofs.mem.Param.{El, R, args, el_x}
use Rattle.nd_region.specs.declared.divided_mutable_borrow.Region.{Region}
use Rattle.nd_region.proofs.RegionValueAndPlaces.{rg_val, rg_made, Began, begins}
use Rattle.nd_region.specs.contracts.divided_mutable_borrow.Region.from_slice as F
use Rattle.nd_region.specs.contracts.divided_mutable_borrow.Region.from_slice.Key.{name as #self}
use Rattle.nd_region.proofs.divided_mutable_borrow.Region.from_slice.Statement as stated
use Rattle.nd_region.proofs.divided_mutable_borrow.Region.from_slice.Code as code

pub from_slice_spec : {M : Type 1} → stated.statement M
from_slice_spec 𝓤 𝓛 𝓜 𝓡 wired X L =
    let H = 𝓛.H in let 𝓣 = tables 𝓤 H 𝓜 𝓡 𝓡.env in let E : El = record { row = X; laws = L } in
    let here : Fn = inst_fn (args E) code.function in let ended : Ended = F.ended X in let held = F.clauses X 𝓛 𝓜.mem 𝓡.returns in
    let stayed : Stays ended.signature.params ended.kept = (stay_dropped (mut_slice_of (0 ∷ []) tt (plain (λ _. R E))) no, tt) in
    proved 𝓛 ended stayed held 𝓜 𝓡 (Goes-spent_slice 𝓛 2 (0 ∷ []) tt (plain (λ _. R E)), tt)
    (#self (args E)) here (code.unfolded 𝓤 H 𝓜 𝓡 wired (X, tt)) (λ κs. (mut_slice_vals, tt)) (λ κs. (mut_slice_Tells (named 0) κs.0 (R E), tt)) (λ κs qs bounds a gh are.
    let κ : Lft = κs.0 in let κA : Lft = κs.1.0 in let q : Share = qs.0 in let qA : Share = qs.1.0 in
    let b : ℕ = a.0.ref_ptr.0 in let o : ℕ = a.0.ref_ptr.1 in let γ : GName = a.0.ghost_name in let xs : List (el_x E) = a.0.now in let rm = are.0.0.1 in let slice : MutBor (List (el_x E)) = a.0 in
    let bound : (walk_of 𝓛 ended stayed held).Ghost = ((κs, qs, bounds, a, (mut_slice_vals slice, tt)), gh) in
    let n : ℕ = length xs in
    let a : NamedLft = named_lft 2 0 tt κs in
    let new : GName → Region (el_x E) = λ δ. record { ptr = block_ptr b o; len = n; mark = record {}; name = δ; items = xs; held = replicate n true; small = rm.0 } in
    qed 𝓛 (((‵ (flft κ q) ⊛ ‵ (flft κA qA) ⊛ ‵ ftrue) ⊛ ‵ (owns (types_at ended.signature.params κs) (slice, tt) (mut_slice_vals slice, tt))) ∷ (raw (fact 𝓤 (κA ⊑ E.row.lives)) ⊛ ‵ ftrue) ∷ []) ∵
    split ! $ split3 ! $ move ! (3 ∷ []) $ fsplit ! $ fsplit3 ! $ move ! (1 ∷ 2 ∷ 4 ∷ 5 ∷ []) $ keep ! (0 ∷ 1 ∷ 2 ∷ 3 ∷ []) $
    rewrite ! 0 (λ (l : List (el_x E)). ‵ (fobs γ ((coded_list (R E).coded).code l))) (heres_id (R E) xs) refl $
    enter ! 𝓣.C 𝓣.Λ here (slice_val (b, o) n ∷ []) _ $ alloc_all ! (λ l. pass_all ! refl ((tt, (tt, (record { fits = rm.0 }, tt))), tt) $
    use3 𝓛 (later (some (Began E 𝓛 b o κ q γ xs))) (begins E 𝓛 b o κ q γ xs) $ await ! tt $ pick ! (λ δ. split3 ! $
    sets ! (addr ! (from ! (fld ! refl (hop ! (look_in_at ! 1 (sub ! 0 refl (whole !))) (stop !))))) refl (tt, tt) $
    sets ! (of_opd ! (get_in ! (fld ! refl (stop !)) (sub ! 1 refl (whole !)))) refl (tt, record { fits = rm.0 }) $
    sets ! (agg ! (no_more !)) refl (tt, tt) $
    sets ! (agg ! (and_then ! (get ! refl) (and_then ! (get ! refl) (and_then ! (get ! refl) (no_more !))))) refl (tt, (tt, (record { fits = rm.0 }, (tt, tt)))) $
    returns ! (look_at ! 0 refl) $ free_all ! refl $
    rg_made a E ! (new δ) b o refl rm.0 rm.1 (length-replicate n true) $
    suffices ! _ (ends_at 𝓛 ended stayed held bound (rg_val (block_ptr b o) n) (new δ) (tt, tt) (tt, tt)) $
    move ! (0 ∷ 1 ∷ 3 ∷ 2 ∷ []) $ nothing ! $ nothing ! $ fjoin ! $ join ! $ nothing ! $ move ! (3 ∷ 0 ∷ []) $ join ! $ move ! (2 ∷ 0 ∷ []) $ join ! $ join ! $ frame ! $ says ! (refl, refl) $ done !)))

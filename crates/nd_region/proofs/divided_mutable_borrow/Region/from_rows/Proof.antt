-- `from_rows` takes the elements of a slice of rows as places, and the slice follows them. Assumes `Logic`.
use Rattle.nd_region.proofs.SeparationLogicImports.{◌≡◌, refl, sym, subst, ◌∙◌, true, ℕ, ◌*◌, ◌<◌, ◌^◌, List, [], ◌∷◌, length, replicate, length-replicate, Args, Fn, named, a_type, a_number, size, Array, follows, follows_then, layout, layouts, number, param, ArrayAt, inst_fn, coded_list, Lft, GName, Share, ftrue, flft, fobs, ◌⊑◌, fact, tables, Memory, ‵, raw, ◌⊛◌, some, later, ◌$◌, ◌∵◌, !, qed, move, keep, drop, learn, use2, use3, split, split3, join, pick, rewrite, fsplit, fsplit3, fjoin, frame, await, suffices, done, whole, sub, agg, stop, fld, hop, from, addr, no_more, and_then, num_lit, bin, of_opd, returns, enter, alloc_all, pass_all, free_all, look_at, look_in_at, get, get_in, sets, no, heres_id, RattleType, owns, block_ptr, MutBor, NamedLft, plain, mut_slice_of, named_lft, types_at, slice_val, mut_slice_vals, mut_slice_Tells, nothing, heard, Ended, says, Stays, stay_dropped, walk_of, ends_at, Goes-spent_slice}
use native.Mathlib.Omega.{arith}
use native.Mathlib.Nat.{mul_assoc}
use Rattle.std.specs.List.{flat_map}
use Rattle.std.specs.Simd.{first_chunks}
use Rattle.std.proofs.slice.Relends.{flat_lent, lends_flat}
use Rattle.std.proofs.raw_atomic.Walks.{proved}
use Rattle.std.proofs.mem.Param.{El, R, el_x}
use Rattle.nd_region.specs.declared.divided_mutable_borrow.Region.{Region}
use Rattle.nd_region.proofs.RegionValueAndPlaces.{rg_val, rg_made, sz, Began, begins}
use Rattle.nd_region.specs.contracts.divided_mutable_borrow.Region.from_rows as F
use Rattle.nd_region.specs.contracts.divided_mutable_borrow.Region.from_rows.Key.{name as #self}
use Rattle.nd_region.proofs.divided_mutable_borrow.Region.from_rows.Statement as stated
use Rattle.nd_region.proofs.divided_mutable_borrow.Region.from_rows.Code as code

pub from_rows_spec : {M : Type 1} → stated.statement M
from_rows_spec 𝓤 𝓛 𝓜 𝓡 wired X n L fits =
    let H = 𝓛.H in let 𝓣 = tables 𝓤 H 𝓜 𝓡 𝓡.env in let E : El = record { row = X; laws = L } in
    let row_args : Args = layouts (a_type ∷ a_number ∷ []) (X, (number n, tt)) in let Run : RattleType = ArrayAt (R E) (param 1 (number n)) in
    let here : Fn = inst_fn row_args code.function in let ended : Ended = F.ended X (number n) in let held = F.clauses X (number n) 𝓛 𝓜.mem 𝓡.returns in
    let stayed : Stays ended.signature.params ended.kept = (stay_dropped (mut_slice_of (0 ∷ []) tt (plain (λ _. Run))) no, tt) in
    proved 𝓛 ended stayed held 𝓜 𝓡 (Goes-spent_slice 𝓛 3 (0 ∷ []) tt (plain (λ _. Run)), tt)
    (#self row_args) here (code.unfolded 𝓤 H 𝓜 𝓡 wired (X, (number n, tt))) (λ κs. (mut_slice_vals, tt)) (λ κs. (mut_slice_Tells (named 0) κs.0 Run, tt)) (λ κs qs bounds a gh are.
    let κ : Lft = κs.0 in let κA : Lft = κs.1.0 in let q : Share = qs.0 in let qA : Share = qs.1.0 in let κN : Lft = κs.1.1.0 in let qN : Share = qs.1.1.0 in
    let b : ℕ = a.0.ref_ptr.0 in let o : ℕ = a.0.ref_ptr.1 in let γ : GName = a.0.ghost_name in let ys : List Run.Denot = a.0.now in let rm = are.0.0.1 in let rows : MutBor (List Run.Denot) = a.0 in
    let bound : (walk_of 𝓛 ended stayed held).Ghost = ((κs, qs, bounds, a, (mut_slice_vals rows, tt)), gh) in
    let s : ℕ = sz E in let xs : List (el_x E) = flat_map (λ r. r) ys in let k : ℕ = length ys * n in
    let a : NamedLft = named_lft 3 0 tt κs in
    let Small : Type 0 = length ys * n < 2 ^ 63 in
    let fit : length ys * (n * s) < 2 ^ 63 = rm.1 in let grouped : k * s ≡ length ys * (n * s) = mul_assoc (length ys) n s in
    let small : k * s < 2 ^ 63 = omega arith in
    qed 𝓛 (((‵ (flft κ q) ⊛ ‵ (flft κA qA) ⊛ ‵ (flft κN qN) ⊛ ‵ ftrue) ⊛ ‵ (owns (types_at ended.signature.params κs) (rows, tt) (mut_slice_vals rows, tt)))
    ∷ (raw (fact 𝓤 (κA ⊑ E.row.lives)) ⊛ raw (fact 𝓤 (κN ⊑ [])) ⊛ raw (fact 𝓤 (n * size (layout E.row) < 2 ^ 63)) ⊛ raw (fact 𝓤 Small)) ∷ []) ∵
    move ! (1 ∷ []) $ split3 ! $ drop ! $ drop ! $ split ! $ drop ! $ heard ! Small (λ few.
    let fk : k < 2 ^ 64 = omega arith in
    split ! $ split3 ! $ move ! (2 ∷ []) $ split ! $ move ! (4 ∷ []) $ fsplit ! $ keep ! (0 ∷ 4 ∷ 5 ∷ 2 ∷ []) $
    -- [the rows; the lender's token; A's; N's]
    enter ! 𝓣.C 𝓣.Λ here (slice_val (b, o) (length ys) ∷ []) _ $ alloc_all ! (λ l. pass_all ! refl ((tt, (tt, (record { fits = rm.0 }, tt))), tt) $
    sets ! (of_opd ! (get_in ! (fld ! refl (stop !)) (sub ! 1 refl (whole !)))) refl (tt, record { fits = rm.0 }) $
    sets ! (bin ! (get ! refl) (num_lit ! fits) (record { fits = fk })) refl (tt, record { fits = fk }) $
    sets ! (addr ! (from ! (fld ! refl (hop ! (look_in_at ! 1 (sub ! 0 refl (whole !))) (stop !))))) refl (tt, tt) $
    sets ! (agg ! (no_more !)) refl (tt, tt) $
    sets ! (agg ! (and_then ! (get ! refl) (and_then ! (get ! refl) (and_then ! (get ! refl) (no_more !))))) refl (tt, (tt, (record { fits = fk }, (tt, tt)))) $
    use2 𝓛 (later (some (flat_lent 𝓛 (named 0) κ q b o γ (R E) tt n ys))) (lends_flat 𝓛 (named 0) κ q b o γ (R E) tt n ys (fk, small) (mut_slice_vals rows)) $ await ! tt $ pick ! (λ δ. learn ! (λ many.
    split3 ! $ fsplit3 ! $ drop ! $ rewrite ! 0 (λ (l : List (el_x E)). ‵ (fobs δ ((coded_list (R E).coded).code l))) (heres_id (R E) xs) refl $
    use3 𝓛 (later (some (Began E 𝓛 b o κ q δ xs))) (begins E 𝓛 b o κ q δ xs) $ await ! tt $ pick ! (λ δ'. split3 ! $
    let fx : length xs < 2 ^ 64 = subst (λ (j : ℕ). j < 2 ^ 64) (sym many) fk in
    let new : Region (el_x E) = record { ptr = block_ptr b o; len = k; mark = record {}; name = δ'; items = xs; held = replicate (length xs) true; small = fk } in
    rg_made a E ! new b o refl fk small (length-replicate (length xs) true ∙ many) $ move ! (3 ∷ 2 ∷ []) $
    use2 𝓛 (‵ (follows (Array (Array (R E) n) 0) (Array (R E) 0) γ δ' (first_chunks n (length ys)))) (follows_then 𝓛 (Array (Array (R E) n) 0) (Array (R E) 0) (Array (R E) 0) (first_chunks n (length ys)) (λ w. w) γ δ δ') $
    -- [what the rows follow; the region; the token; A's; N's]
    returns ! (look_at ! 0 refl) $ free_all ! refl $
    suffices ! _ (ends_at 𝓛 ended stayed held bound (rg_val (block_ptr b o) k) new (tt, tt) (tt, tt)) $
    move ! (1 ∷ 2 ∷ 3 ∷ 4 ∷ 0 ∷ []) $ nothing ! $ nothing ! $ fjoin ! $ join ! $ nothing ! $ move ! (4 ∷ 0 ∷ []) $ join ! $ move ! (3 ∷ 0 ∷ []) $ join ! $ move ! (2 ∷ 0 ∷ []) $ join ! $ join ! $ frame ! $ says ! (refl, refl) $ done !))))))

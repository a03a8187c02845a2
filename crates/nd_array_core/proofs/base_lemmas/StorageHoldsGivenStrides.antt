-- Strides of the caller's: the storage holds an element at each index where it holds as many as they ask for.
use Rattle.nd_array_core.proofs.NamesFromOtherCrates.{ℕ, ◌<◌, List, ℤ, ap, ◌∙◌, arith, Option, IsSome, row_rank_below, reach_down, place-in_box, span_of-reaches, names_place, HoldsAll, elements_asked, asked_of_some}

pub given_holds : {A : Type 0} (stored : ℕ → Option A) (ns : List ℕ) (ss : List ℤ) → ((p : ℕ) → p < elements_asked ns ss → IsSome (stored p)) → HoldsAll stored (reach_down ns ss) ns ss
given_holds stored ns ss holds i h =
    let at = place-in_box (reach_down ns ss) ns ss i h (omega arith) in
    let both = span_of-reaches ns ss in
    let rank = row_rank_below ns i h in
    let asked = asked_of_some ns ss (omega (arith, rank)) in
    let below : at.0 < elements_asked ns ss = let le = at.2 in omega (arith, le, both, asked) in
    ap (names_place stored) at.1 ∙ holds at.0 below

use Rattle.std.proofs.Common.{rules, ◌≡◌, ◌∙◌, refl, ap, sym, ℕ, List, Option}
use Rattle.std.specs.List.{fold}
use Rattle.std.specs.Float.{binary64, float_zero}
use Rattle.std.specs.Float.Ieee.{Float, add}
use Rattle.nd_array_core.specs.Prelude.{Meaning, meaning_of, option_both, row_major_elements, broadcast_at}
use Rattle.nd_array_core.specs.elements.PairMapsAndFolds.{paired_with}
use Rattle.nd_array_core.proofs.reshape_lemmas.RunElements.{same_elements}
use Rattle.uses_nd_iter_stacking_and_numeric.specs.DistancesAndWindowMeans.{side_by_side, squared_difference}
use Rattle.uses_nd_iter_stacking_and_numeric.proofs.distances_and_window_means.squared_distance.Goals as goal

same_pairs : (one other : Meaning Float) (at : List ℕ → Option Float) → ((i : List ℕ) → at i ≡ other.at i) → row_major_elements (paired_with one at) ≡ row_major_elements (side_by_side one other)
same_pairs one other at same = same_elements (paired_with one at) (side_by_side one other) refl (λ i. ap (option_both (λ x y. (x, y)) (one.at i)) (same i))

pub returns : goal.returns
unfolding lib.Ieee.of_bits
returns g c =
    let one : Meaning Float = meaning_of c.args.one.now in
    let other : Meaning Float = meaning_of c.args.other.now in
    c.zip_fold.ensures.settled (λ sum x y. add binary64 sum (squared_difference x y)) (search rules)
    ∙ ap (fold (λ (sum : Float) (p : Float × Float). add binary64 sum (squared_difference p.0 p.1)) float_zero) (same_pairs one other (broadcast_at one.shape other) (λ i. c.broadcast_to_itself.ensures.elements one.shape (sym c.requires) i))

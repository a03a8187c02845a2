use Rattle.nd_elements.proofs.NamesFromOtherCrates.{◌≡◌, ◌∷◌, [], false, refl, arith, nat_tests, in_box}
use Rattle.nd_elements.specs.along.LanesWritten.{lane_held}
use Rattle.nd_elements.proofs.along.lane_mut.LaneMut.len.Goals as goal

pub returns-clause-outside : goal.returns-clause-outside
unfolding lane_held
returns-clause-outside g c k beyond =
    let out : in_box (c.args.self.now.lane.count ∷ []) (k ∷ []) ≡ false = grind (arith, nat_tests, beyond) in
    rw out refl

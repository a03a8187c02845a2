use Rattle.nd_layout.proofs.NamesFromOtherCrates.{◌≡◌, ◌<◌, ◌/◌, ℕ, length, slice_index, arith}
use Rattle.nd_layout.specs.LayoutStepsOfCalls.{placement_of}
use Rattle.nd_layout.proofs.order_lemmas.FollowingHalves.{halves_follow}
use Rattle.nd_layout.proofs.layout.Layout.first_halves.Goals as goal

pub returns : goal.returns
returns g c =
    let ns = g.D.Dimension.lengths c.args.self.now.dim in
    let axis = c.in_ok-axis.axis in
    let cut = c.in_ok-axis.ensures in
    let is = c.slice.ensures.lengths in
    let long = c.length.ensures in
    let on : axis < length ns = rw is at cut.0 in
    let more : 1 < slice_index ns axis = rw is at cut.1 in
    let ones : (k : ℕ) → k < axis → slice_index ns k ≡ 1 = rw is at cut.2 in
    let parts = c.halves.ensures in
    halves_follow axis (c.length.result / 2) (placement_of c.args.self.now) (placement_of c.halves.result.0) (placement_of c.halves.result.1)
    on (omega (arith, long, more)) (omega (arith, long, more)) ones parts.lower_lengths parts.upper_lengths parts.lower parts.upper

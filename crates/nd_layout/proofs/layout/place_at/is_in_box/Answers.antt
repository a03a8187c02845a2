use Rattle.nd_layout.proofs.NamesFromOtherCrates.{sym, ◌<◌, arith, refl, length, length-in_box, coordinate_below, in_box-from_coordinates}
use Rattle.nd_layout.proofs.layout.place_at.is_in_box.Goals as goal

pub returns-then-lengths-index : goal.returns-then-lengths-index
returns-then-lengths-index c = (λ no. cc, λ inside. absurd (c.if-lengths-index.true (sym (length-in_box c.args.lengths.now c.args.index.now inside))))

pub returns-then-index-axis : goal.returns-then-index-axis
returns-then-index-axis c = (
  λ no. cc,
  λ inside.
      let within : c.loop-axis.axis < length c.args.lengths.now = omega arith in
      let below = coordinate_below c.args.lengths.now c.args.index.now c.loop-axis.axis inside within in
      absurd (omega (arith, below)),
)

pub returns : goal.returns
returns c =
    (λ yes. in_box-from_coordinates c.args.lengths.now c.args.index.now (sym c.loop-axis.invariant.0) (λ k lt. c.loop-axis.invariant.1 k (omega arith)), λ inside. refl)

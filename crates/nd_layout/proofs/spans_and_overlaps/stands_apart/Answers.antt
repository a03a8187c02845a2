use Rattle.nd_layout.proofs.NamesFromOtherCrates.{◌≡◌, ◌<◌, ◌^◌, rules, arith, lt-ltb, ltb-true, magnitude_at}
use Rattle.nd_layout.proofs.ReachSumLoops.{stands_apart-of_others}
use Rattle.nd_layout.proofs.spans_and_overlaps.stands_apart.Goals as goal

pub returns-in-Some : goal.returns-in-Some
returns-in-Some c =
    let is_m : c.unsigned_abs-magnitude.result ≡ magnitude_at c.args.strides.now c.args.axis = search rules in
    let both = stands_apart-of_others c.args.lengths.now c.args.strides.now c.args.axis c.unsigned_abs-magnitude.result c.requires.as_many c.requires.on_axis is_m (omega arith) in
    (λ t _. both.0 (rw (← c.in-Some.ensures) (ltb-true _ _ t)), λ all. lt-ltb _ _ (rw c.in-Some.ensures (both.1 (all (omega arith)))))

pub returns-in-None : goal.returns-in-None
returns-in-None c =
    let is_m : c.unsigned_abs-magnitude.result ≡ magnitude_at c.args.strides.now c.args.axis = search rules in
    let fits : c.unsigned_abs-magnitude.result < 2 ^ 64 = search rules in
    let both = stands_apart-of_others c.args.lengths.now c.args.strides.now c.args.axis c.unsigned_abs-magnitude.result c.requires.as_many c.requires.on_axis is_m (omega arith) in
    (λ no. cc, λ all. absurd (omega (arith, c.in-None.ensures, both.1 (all (omega arith)))))

use Rattle.nd_layout.proofs.NamesFromOtherCrates.{refl}
use Rattle.nd_layout.proofs.steps.GivenStrides.{apart_by_test}
use Rattle.nd_layout.proofs.layout.given_strides.offset_in_vec.Goals as goal

pub returns-then-keeps_apart-clause-apart : goal.returns-then-keeps_apart-clause-apart
returns-then-keeps_apart-clause-apart c = apart_by_test c.args.lengths.now c.args.strides.now (c.if-keeps_apart.ensures.0 refl)

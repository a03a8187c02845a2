use Rattle.nd_layout.proofs.NamesFromOtherCrates.{rules, w64, FitsSigned, to_z-of_z}
use Rattle.nd_layout.proofs.steps.MergeStep.{strides_exchanged}
use Rattle.nd_layout.proofs.layout.merge_axes.exchange_strides.Goals as goal

pub returns : goal.returns
returns g c =
    let fits : FitsSigned w64 c.stride-stride.result = search rules in
    let fits' : FitsSigned w64 c.stride-other.result = search rules in
    strides_exchanged (g.T.StrideList.strides_of c.args.strides.now) (g.T.StrideList.strides_of c.set.new.self) (g.T.StrideList.strides_of c.set-2.new.self) c.args.a c.args.b c.stride-stride.result c.stride-other.result _ _ c.requires.a c.requires.b c.stride-stride.ensures c.stride-other.ensures (to_z-of_z w64 c.stride-stride.result fits) (to_z-of_z w64 c.stride-other.result fits') c.set.ensures c.set-2.ensures

use Rattle.nd_layout.proofs.NamesFromOtherCrates.{◌≡◌, ◌∙◌, sym, ap, take, get_or}
use Rattle.nd_layout.proofs.steps.SqueezeStep.{squeezed_offset}
use Rattle.nd_layout.proofs.layout.squeeze.Layout+IxDyn+DynStrides.squeezed_at.Goals as goal

pub returns-then-ndim-gt1-clause-offset : goal.returns-then-ndim-gt1-clause-offset
returns-then-ndim-gt1-clause-offset c =
    let self = c.args.self.now in
    let lengths = take self.dim.count self.dim.lens in
    let one : get_or lengths c.args.axis 0 ≡ 1 = ap (λ l. get_or l c.args.axis 0) (sym c.slice.ensures.lengths) ∙ (sym c.length_at.ensures ∙ c.if-length_at-eq1.true) in
    let step = rw c.index_axis.ensures.lengths at c.index_axis.ensures.step in
    squeezed_offset self.offset lengths (take self.strides.count self.strides.strides) c.args.axis c.index_axis.result.offset (take c.index_axis.result.strides.count c.index_axis.result.strides.strides) c.requires one c.index_axis.ensures.empty step

use Rattle.nd_layout.proofs.NamesFromOtherCrates.{rules, ◌∙◌, ap, sym, get_or, pos, w64, FitsSigned, to_z-of_z}
use Rattle.nd_layout.proofs.reshape_lemmas.AxesFromFastest.{get_or-ordered}
use Rattle.nd_layout.proofs.reshape.axes_from_fastest.nth_stride.Goals as goal

pub returns : goal.returns
returns c =
    let stride = get_or c.args.strides.now c.axis_at.result (pos 0) in
    let fits : FitsSigned w64 stride = search rules in
    to_z-of_z w64 stride fits ∙ (ap (λ k. get_or c.args.strides.now k (pos 0)) c.axis_at.ensures.value ∙ sym (get_or-ordered c.args.order c.args.strides.now c.args.nth (pos 0) c.requires))

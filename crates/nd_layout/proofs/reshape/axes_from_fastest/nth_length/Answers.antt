use Rattle.nd_layout.proofs.NamesFromOtherCrates.{◌∙◌, ap, sym, get_or}
use Rattle.nd_layout.proofs.reshape_lemmas.AxesFromFastest.{get_or-ordered}
use Rattle.nd_layout.proofs.reshape.axes_from_fastest.nth_length.Goals as goal

pub returns : goal.returns
returns c = ap (λ k. get_or c.args.lengths.now k 0) c.axis_at.ensures.value ∙ sym (get_or-ordered c.args.order c.args.lengths.now c.args.nth 0 c.requires)

use Rattle.nd_elements.proofs.NamesFromOtherCrates.{◌∙◌, ap, whole_got}
use Rattle.nd_elements.proofs.storage.ViewRepr.of_slice.Goals as goal

pub returns : goal.returns
returns g c p = ap (λ m. m p) c.from_slice.ensures ∙ whole_got c.args.items.now p

use Rattle.nd_shape_and_slice.proofs.NamesFromOtherCrates.{◌∙◌, sym}
use Rattle.nd_shape_and_slice.proofs.NonzeroProducts.{list_any_zero, zero_list_any}
use Rattle.nd_shape_and_slice.proofs.checked_size.is_empty_shape.Goals as goal

pub returns : goal.returns
returns c =
    (λ yes. list_any_zero c.args.lengths.now (sym c.contains.ensures.value ∙ yes), λ none. c.contains.ensures.value ∙ zero_list_any c.args.lengths.now none)

use Rattle.nd_array_core.proofs.NamesFromOtherCrates.{◌∙◌, ap, sym, slice_get, rank_in, inside}
use Rattle.nd_array_core.specs.ArrayMeaning.{shape_of, element_at}
use Rattle.nd_array_core.proofs.reshape_lemmas.ElementsListedInOrder.{found_regrouped}
use Rattle.nd_array_core.proofs.reshape.copies_in_an_order.copied_in.Goals as goal

pub of_items-requires-clause-checked : goal.of_items-requires-clause-checked
of_items-requires-clause-checked g c = c.requires.shape.0

pub of_items-requires-clause-count : goal.of_items-requires-clause-count
of_items-requires-clause-count g c = c.in_ok-items.ensures.count ∙ sym c.requires.shape.1

pub returns-clause-owns : goal.returns-clause-owns
returns-clause-owns g c = c.of_items.ensures.owns

pub returns-clause-ranks : goal.returns-clause-ranks
returns-clause-ranks g c =
    let array = c.args.array.now in
    let ms = g.E.Dimension.lengths c.args.dim in (
      c.of_items.ensures.owns.0,
      (λ i.
          c.of_items.ensures.owns.4 i
          ∙ (ap (λ xs. inside ms i (slice_get xs (rank_in c.args.order ms i))) c.of_items.ensures.stored
          ∙ found_regrouped c.args.order (shape_of array) ms (element_at array) c.in_ok-items.items.items c.requires.shape.1 c.in_ok-items.ensures.listed i)),
    )

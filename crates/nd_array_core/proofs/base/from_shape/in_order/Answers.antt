use Rattle.nd_array_core.specs.ArrayMeaning.{meaning_of}
use Rattle.nd_array_core.proofs.base_lemmas.NewArraysInOrder.{ranked_holds, ranked_element}
use Rattle.nd_array_core.proofs.NamesFromOtherCrates.{ordered_is_ranked}
use Rattle.nd_array_core.proofs.base.from_shape.in_order.Goals as goal

pub invariant_of-result : goal.invariant_of-result
invariant_of-result g c =
    let ranked = ordered_is_ranked c.args.order (g.D.Dimension.lengths c.args.dim) c.requires.checked in
    record {
      inside = rw (c.in_order.ensures.offset, c.in_order.ensures.lengths, c.in_order.ensures.strides) (ranked_holds ranked (g.S.Data.stored c.args.storage) c.requires.holds);
      separated = rw (c.in_order.ensures.lengths, c.in_order.ensures.strides) (λ _ some. ranked.apart some);
    }

pub returns-clause-elements : goal.returns-clause-elements
unfolding meaning_of
returns-clause-elements g c i =
    let ranked = ordered_is_ranked c.args.order (g.D.Dimension.lengths c.args.dim) c.requires.checked in
    rw (c.in_order.ensures.offset, c.in_order.ensures.lengths, c.in_order.ensures.strides) (ranked_element ranked (g.S.Data.stored c.args.storage) i)

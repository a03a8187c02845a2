use Rattle.nd_array_core.proofs.NamesFromOtherCrates.{IfErr-weaker}
use Rattle.nd_array_core.specs.ArrayMeaning.{meaning_of, memory_layout_of}
use Rattle.nd_array_core.proofs.reshape_lemmas.IndexesAfterReshape.{refused_in_both}
use Rattle.nd_array_core.proofs.reshape.into_shape.ArrayBase+S+D.into_shape.Goals as goal

pub returns-clause-refused : goal.returns-clause-refused
unfolding meaning_of memory_layout_of
returns-clause-refused g c =
    IfErr-weaker c.into_shape_with_order.result _ _ (λ e. refused_in_both c.order_tried-order.result e c.order_tried-order.ensures) c.into_shape_with_order.ensures.refused

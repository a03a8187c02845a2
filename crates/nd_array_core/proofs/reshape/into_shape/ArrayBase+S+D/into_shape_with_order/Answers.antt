use Rattle.nd_array_core.proofs.NamesFromOtherCrates.{◌∙◌, ◌<◌, subst, rules, size_of, seen_holds}
use Rattle.nd_array_core.specs.ArrayMeaning.{meaning_of, memory_layout_of}
use Rattle.nd_array_core.specs.reshape.ReshapeByRank.{IsInOrder, IsShapeOf}
use Rattle.nd_array_core.proofs.reshape.into_shape.ArrayBase+S+D.into_shape_with_order.Goals as goal

pub ordered_layout-layout-requires-clause-shape : goal.ordered_layout-layout-requires-clause-shape
ordered_layout-layout-requires-clause-shape g c = subst (IsShapeOf (g.D.Dimension.lengths c.args.self.layout.dim)) c.slice.ensures.lengths c.in_ok-check_order.ensures.shape

pub ordered_layout-layout-requires-clause-order : goal.ordered_layout-layout-requires-clause-order
ordered_layout-layout-requires-clause-order g c = c.in_ok-check_order.ensures.order

pub invariant_of-result : goal.invariant_of-result
invariant_of-result g c =
    let laid = c.ordered_layout-layout.ensures in
    record { inside = seen_holds (g.S.Data.stored c.args.self.storage) laid.seen c.args.self.inside; separated = λ _ some. laid.separated (subst (λ ns. 0 < size_of ns) laid.lengths some) }

pub returns : goal.returns
unfolding meaning_of memory_layout_of
returns g c =
    record {
      refused = search rules;
      shape = subst (IsShapeOf (g.D.Dimension.lengths c.args.self.layout.dim)) (c.slice.ensures.lengths ∙ c.into_shape_and_order-dim.ensures.lengths) c.in_ok-check_order.ensures.shape;
      order = let layout = c.args.self.layout in
          subst (λ order. IsInOrder order (g.D.Dimension.lengths layout.dim) (g.D.Strides.StrideList.strides_of layout.strides)) c.into_shape_and_order-dim.ensures.order c.in_ok-check_order.ensures.order;
      part = search rules;
      offset = c.ordered_layout-layout.ensures.offset;
    }

use Rattle.nd_array_core.proofs.NamesFromOtherCrates.{◌≡◌, ◌∙◌, replicate, ap, sym, subst, rules, size_of, stored_list}
use Rattle.nd_array_core.specs.ArrayMeaning.{element_at, storage_of}
use Rattle.nd_array_core.specs.base.NewArrays.{OwnsInOrder}
use Rattle.nd_array_core.proofs.base_lemmas.NewArraysOfOneProperty.{shown_alone, all_alike}
use Rattle.nd_array_core.proofs.base.constructors.Array+A+D.from_elem.Goals as goal

pub of_items-requires-clause-checked : goal.of_items-requires-clause-checked
of_items-requires-clause-checked g c =
    let lengths : g.D.Dimension.lengths c.raw_dim.result.now ≡ g.Sh.ShapeBuilder.builds_lengths c.args.shape = ap g.D.Dimension.lengths c.raw_dim.ensures ∙ c.into_shape_with_order-shape.ensures.lengths in
    rw lengths c.requires.checked

pub of_items-requires-clause-count : goal.of_items-requires-clause-count
of_items-requires-clause-count g c =
    let dim = c.raw_dim.ensures in
    c.in_ok-items.ensures.count ∙ (c.size.ensures ∙ ap (λ d. size_of (g.D.Dimension.lengths d)) (sym dim))

pub returns : goal.returns
returns g c =
    record {
      owns = let lengths : g.D.Dimension.lengths c.raw_dim.result.now ≡ g.Sh.ShapeBuilder.builds_lengths c.args.shape = ap g.D.Dimension.lengths c.raw_dim.ensures ∙ c.into_shape_with_order-shape.ensures.lengths in
          let order : c.order.result ≡ g.Sh.ShapeBuilder.builds_order c.args.shape = c.order.ensures ∙ c.into_shape_with_order-shape.ensures.order in
          subst (λ built. OwnsInOrder built c.of_items.result) (λ k. (lengths k, order k)) c.of_items.ensures.owns;
      stored = c.of_items.ensures.stored ∙ (c.in_ok-items.ensures.items ∙ ap (λ n. replicate n c.args.elem) (c.size.ensures ∙ ap size_of c.into_shape_with_order-shape.ensures.lengths));
      elements = let ns = g.D.Dimension.lengths c.raw_dim.result.now in
          let lengths : ns ≡ g.Sh.ShapeBuilder.builds_lengths c.args.shape = ap g.D.Dimension.lengths c.raw_dim.ensures ∙ c.into_shape_with_order-shape.ensures.lengths in
          let x = c.args.elem in
          shown_alone (ns, c.order.result) (g.Sh.ShapeBuilder.builds_lengths c.args.shape) (stored_list (storage_of c.of_items.result)) c.in_ok-items.items.items (element_at c.of_items.result) (λ y. y ≡ x) lengths c.requires.checked c.of_items.ensures.owns.3 c.of_items.ensures.owns.4 c.of_items.ensures.stored (rw c.in_ok-items.ensures.items (all_alike c.size.result x)) x (λ y same. same);
      refused = search rules;
    }

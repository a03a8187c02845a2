use Rattle.nd_array_core.proofs.NamesFromOtherCrates.{◌≡◌, ◌∙◌, ◌++◌, subst, OnOk, rules, on_err_weaker, joined_has, joined_clones, joined_elements}
use Rattle.nd_array_core.specs.ArrayMeaning.{meaning_of}
use Rattle.nd_array_core.proofs.elements_lemmas.LackOfMemory.{joined_refused}
use Rattle.nd_array_core.proofs.elements.to_vec.list_after.Goals as goal

pub list_layout-requires-clause-clones : goal.list_layout-requires-clause-clones
unfolding meaning_of
list_layout-requires-clause-clones g c =
    let layout = c.args.array.now.layout in
    let joined = rw (c.copied-joined.ensures.lengths, c.copied-joined.ensures.strides) at c.join_axes.ensures.joined in
    (joined_clones (g.S.Data.stored c.args.array.now.storage) layout.offset (g.D.Dimension.lengths layout.dim) (g.D.Strides.StrideList.strides_of layout.strides)
    c.join_axes.new.self.offset (g.D.Dimension.lengths c.join_axes.new.self.dim) (g.D.Strides.StrideList.strides_of c.join_axes.new.self.strides)
    (c.join_axes.ensures.offset ∙ c.copied-joined.ensures.offset) joined g.S.Elem.Clone.is_clone c.requires.clones)

pub list_layout-requires-clause-holds : goal.list_layout-requires-clause-holds
list_layout-requires-clause-holds g c =
    let layout = c.args.array.now.layout in
    let joined = rw (c.copied-joined.ensures.lengths, c.copied-joined.ensures.strides) at c.join_axes.ensures.joined in
    (joined_has (g.S.Data.stored c.args.array.now.storage) layout.offset (g.D.Dimension.lengths layout.dim) (g.D.Strides.StrideList.strides_of layout.strides)
    c.join_axes.new.self.offset (g.D.Dimension.lengths c.join_axes.new.self.dim) (g.D.Strides.StrideList.strides_of c.join_axes.new.self.strides)
    (c.join_axes.ensures.offset ∙ c.copied-joined.ensures.offset) joined c.args.array.now.inside)

pub returns : goal.returns
unfolding meaning_of
returns g c =
    let layout = c.args.array.now.layout in
    let joined = rw (c.copied-joined.ensures.lengths, c.copied-joined.ensures.strides) at c.join_axes.ensures.joined in
    record {
      items = let items = c.list_layout.ensures.items in
          subst (λ xs. OnOk c.list_layout.result (c.list_layout.new.items.items ≡ c.args.items.now.items ++ xs))
          (joined_elements (g.S.Data.stored c.args.array.now.storage) layout.offset (g.D.Dimension.lengths layout.dim) (g.D.Strides.StrideList.strides_of layout.strides)
          c.join_axes.new.self.offset (g.D.Dimension.lengths c.join_axes.new.self.dim) (g.D.Strides.StrideList.strides_of c.join_axes.new.self.strides)
          (c.join_axes.ensures.offset ∙ c.copied-joined.ensures.offset) joined)
          items;
      count = search rules;
      room = search rules;
      kept = search rules;
      refused = let refused = c.list_layout.ensures.refused in
          on_err_weaker c.list_layout.result
          (joined_refused g.S.Elem.Clone.is_infallible (g.S.Data.stored c.args.array.now.storage) layout.offset (g.D.Dimension.lengths layout.dim) (g.D.Strides.StrideList.strides_of layout.strides)
          c.join_axes.new.self.offset (g.D.Dimension.lengths c.join_axes.new.self.dim) (g.D.Strides.StrideList.strides_of c.join_axes.new.self.strides)
          (c.join_axes.ensures.offset ∙ c.copied-joined.ensures.offset) joined)
          refused;
    }

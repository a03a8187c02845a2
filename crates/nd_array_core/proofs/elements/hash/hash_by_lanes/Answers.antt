use Rattle.nd_array_core.proofs.NamesFromOtherCrates.{◌∙◌, ap, sym, subst, fold, flat_map, by_rank, Holds, FeedsEach, joined_has, joined_elements}
use Rattle.nd_array_core.specs.ArrayMeaning.{meaning_of}
use Rattle.nd_array_core.proofs.elements.hash.hash_by_lanes.Goals as goal

pub hash_places-requires : goal.hash_places-requires
hash_places-requires g c =
    let layout = c.args.array.now.layout in
    let joined = rw (c.copied-joined.ensures.lengths, c.copied-joined.ensures.strides) at c.join_axes.ensures.joined in
    record {
      holds = subst (λ p. Holds g.S.Data.stored (by_rank p) c.args.array.now.storage) (sym c.places.ensures)
          (joined_has (g.S.Data.stored c.args.array.now.storage) layout.offset (g.D.Dimension.lengths layout.dim) (g.D.Strides.StrideList.strides_of layout.strides)
          c.join_axes.new.self.offset (g.D.Dimension.lengths c.join_axes.new.self.dim) (g.D.Strides.StrideList.strides_of c.join_axes.new.self.strides)
          (c.join_axes.ensures.offset ∙ c.copied-joined.ensures.offset) joined c.args.array.now.inside);
    }

pub returns : goal.returns
unfolding meaning_of
returns g c =
    let layout = c.args.array.now.layout in
    let joined = rw (c.copied-joined.ensures.lengths, c.copied-joined.ensures.strides) at c.join_axes.ensures.joined in
    let fed = subst (λ p. FeedsEach g.H.Hasher.write g.S.Elem.Hash.hash_input g.S.Data.stored (by_rank p) c.args.array.now.storage c.args.state.now c.hash_places.new.state) c.places.ensures c.hash_places.ensures in
    fed
    ∙ ap (λ xs. fold g.H.Hasher.write c.args.state.now (flat_map g.S.Elem.Hash.hash_input xs))
    (joined_elements (g.S.Data.stored c.args.array.now.storage) layout.offset (g.D.Dimension.lengths layout.dim) (g.D.Strides.StrideList.strides_of layout.strides)
    c.join_axes.new.self.offset (g.D.Dimension.lengths c.join_axes.new.self.dim) (g.D.Strides.StrideList.strides_of c.join_axes.new.self.strides)
    (c.join_axes.ensures.offset ∙ c.copied-joined.ensures.offset) joined)

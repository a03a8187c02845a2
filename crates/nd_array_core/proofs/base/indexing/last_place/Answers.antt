use Rattle.nd_array_core.proofs.NamesFromOtherCrates.{◌≡◌, ◌∙◌, ◌-◌, ◌<◌, refl, ap, sym, in_box, size_of, index_at, place_of}
use Rattle.nd_array_core.specs.LastIndex.{last_index}
use Rattle.nd_array_core.proofs.base_lemmas.LastIndexes.{last_by_rank, last_inside, last_outside, not_none, rank_below, some_left, taken_long}
use Rattle.nd_array_core.proofs.base.indexing.last_place.Goals as goal

pub slice_bounds-coordinates-end : goal.slice_bounds-coordinates-end
slice_bounds-coordinates-end g c = c.slice-lengths.ensures.few

pub slice_bounds-index-end : goal.slice_bounds-index-end
slice_bounds-index-end g c = sym (taken_long _ _ c.slice-lengths.ensures.few)

pub overflow_sub-size : goal.overflow_sub-size
overflow_sub-size g c =
    let lengths = c.slice-lengths.ensures.lengths in
    some_left c.is_empty_shape.result c.size.result c.if-is_empty_shape.false (λ none. c.is_empty_shape.ensures.1 (ap size_of lengths ∙ (sym c.size.ensures ∙ none)))

pub index_of_rank-requires-clause-as_long : goal.index_of_rank-requires-clause-as_long
index_of_rank-requires-clause-as_long g c = taken_long _ _ c.slice-lengths.ensures.few

pub index_of_rank-requires-clause-below : goal.index_of_rank-requires-clause-below
index_of_rank-requires-clause-below g c =
    let lengths = c.slice-lengths.ensures.lengths in
    let some = some_left c.is_empty_shape.result (size_of c.slice-lengths.result.now) c.if-is_empty_shape.false c.is_empty_shape.ensures.1 in
    rank_below (size_of c.slice-lengths.result.now) c.size.result (c.size.ensures ∙ ap size_of (sym lengths)) some

pub place_in_box-requires : goal.place_in_box-requires
place_in_box-requires g c =
    let ns = g.D.Dimension.lengths c.args.layout.now.dim in
    let lengths = c.slice-lengths.ensures.lengths in
    let some : 0 < size_of ns = some_left c.is_empty_shape.result (size_of ns) c.if-is_empty_shape.false (λ none. c.is_empty_shape.ensures.1 (ap size_of lengths ∙ none)) in
    let last : c.index_of_rank.new.index ≡ last_index ns = c.index_of_rank.ensures ∙ ((λ k. index_at (lengths k) (c.size.ensures k - 1)) ∙ last_by_rank ns some) in
    ap (in_box ns) last ∙ last_inside ns some

pub returns-then-is_empty_shape : goal.returns-then-is_empty_shape
returns-then-is_empty_shape g c =
    let lengths = c.slice-lengths.ensures.lengths in
    record {
      place = last_outside (g.D.Dimension.lengths c.args.layout.now.dim) (ap size_of (sym lengths) ∙ c.is_empty_shape.ensures.0 c.if-is_empty_shape.true);
      none = ((λ none. ap size_of (sym lengths) ∙ c.is_empty_shape.ensures.0 c.if-is_empty_shape.true), (λ none. refl));
    }

pub returns-else-is_empty_shape : goal.returns-else-is_empty_shape
returns-else-is_empty_shape g c =
    let ns = g.D.Dimension.lengths c.args.layout.now.dim in
    let lengths = c.slice-lengths.ensures.lengths in
    record {
      place = let some : 0 < size_of ns = some_left c.is_empty_shape.result (size_of ns) c.if-is_empty_shape.false (λ none. c.is_empty_shape.ensures.1 (ap size_of lengths ∙ none)) in
          let last : c.index_of_rank.new.index ≡ last_index ns = c.index_of_rank.ensures ∙ ((λ k. index_at (lengths k) (c.size.ensures k - 1)) ∙ last_by_rank ns some) in
          (last_inside ns some, c.place_in_box.ensures ∙ ap (place_of c.args.layout.now.offset (g.T.StrideList.strides_of c.args.layout.now.strides)) last);
      none = not_none (size_of ns) (some_left c.is_empty_shape.result (size_of ns) c.if-is_empty_shape.false (λ none. c.is_empty_shape.ensures.1 (ap size_of lengths ∙ none)));
    }

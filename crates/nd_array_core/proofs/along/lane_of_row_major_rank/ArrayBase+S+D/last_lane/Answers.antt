use Rattle.nd_array_core.proofs.NamesFromOtherCrates.{◌≡◌, ◌-◌, ◌*◌, ◌/◌, ◌%◌, ap, sym, ◌∙◌, arith, rules, w64, FitsSigned, is_some, to_z-of_z, div-add-mod', mod_below, stored_along, shown_by}
use Rattle.nd_array_core.specs.ArrayMeaning.{meaning_of, memory_layout_of}
use Rattle.nd_array_core.specs.along.AxisMaps.{lane_seen}
use Rattle.nd_array_core.proofs.along_lemmas.LastAxisLanes.{lane_of_rank, lane_is_short, lane_reaches, lane_holds, lane_opens, rank_listed, shown_along}
use Rattle.nd_array_core.proofs.along.lane_of_row_major_rank.ArrayBase+S+D.last_lane.Goals as goal

pub nonzero_rem-from : goal.nonzero_rem-from
unfolding meaning_of
nonzero_rem-from g c =
    let layout = c.args.self.now.layout in
    let last = rw (c.slice.ensures.lengths, c.slice-2.ensures) at c.last_axis-count.ensures in
    (lane_of_rank layout.offset (g.D.Dimension.lengths layout.dim) (g.D.Strides.StrideList.strides_of layout.strides) layout.as_many c.last_axis-count.result.0 c.last_axis-count.result.1 last c.args.rank c.requires).some

pub lane_from-lane-requires : goal.lane_from-lane-requires
unfolding meaning_of
lane_from-lane-requires g c =
    let layout = c.args.self.now.layout in
    let last = rw (c.slice.ensures.lengths, c.slice-2.ensures) at c.last_axis-count.ensures in
    let ns = g.D.Dimension.lengths layout.dim in
    let ss = g.D.Strides.StrideList.strides_of layout.strides in
    let count = c.last_axis-count.result.0 in
    record {
      few = lane_is_short (g.S.Data.stored c.args.self.now.storage) layout.offset ns ss (c.args.rank - c.args.rank % count) count c.last_axis-count.result.1
          (lane_of_rank layout.offset ns ss layout.as_many count c.last_axis-count.result.1 last c.args.rank c.requires)
          c.place_of_rank.result c.place_of_rank.ensures layout.checked;
      reach = let stride = c.last_axis-count.result.1 in
          let fits : FitsSigned w64 stride = search rules in
          rw (to_z-of_z w64 stride fits)
          (lane_reaches (g.S.Data.stored c.args.self.now.storage) layout.offset ns ss (c.args.rank - c.args.rank % count) count stride
          (lane_of_rank layout.offset ns ss layout.as_many count stride last c.args.rank c.requires)
          c.place_of_rank.result c.place_of_rank.ensures layout.reach);
    }

pub over-requires : goal.over-requires
unfolding meaning_of
over-requires g c k below =
    let array = c.args.self.now in
    let layout = array.layout in
    let last = rw (c.slice.ensures.lengths, c.slice-2.ensures) at c.last_axis-count.ensures in
    let ns = g.D.Dimension.lengths layout.dim in
    let ss = g.D.Strides.StrideList.strides_of layout.strides in
    let count = c.last_axis-count.result.0 in
    let stride = c.last_axis-count.result.1 in
    let fits : FitsSigned w64 stride = search rules in
    let lies = rw (to_z-of_z w64 stride fits) at c.lane_from-lane.ensures.lane in
    (λ i. is_some (stored_along (shown_by c.borrowed.result) (lies.0 i) (lies.2 i) k))
    ∙ ap is_some (shown_along (shown_by c.borrowed.result) (g.S.Data.stored array.storage) c.borrowed.ensures c.place_of_rank.result stride k)
    ∙ lane_holds (g.S.Data.stored array.storage) layout.offset ns ss (c.args.rank - c.args.rank % count) count stride
    (lane_of_rank layout.offset ns ss layout.as_many count stride last c.args.rank c.requires)
    c.place_of_rank.result c.place_of_rank.ensures array.inside k (omega (arith, below, lies.1))

pub returns : goal.returns
unfolding meaning_of lane_seen memory_layout_of
returns g c =
    let layout = c.args.self.now.layout in
    let last = rw (c.slice.ensures.lengths, c.slice-2.ensures) at c.last_axis-count.ensures in
    let ns = g.D.Dimension.lengths layout.dim in
    let ss = g.D.Strides.StrideList.strides_of layout.strides in
    let long = c.over.ensures.lane.1 in
    let same = c.lane_from-lane.ensures.lane.1 in
    let count = c.last_axis-count.result.0 in
    record {
      from = search rules;
      upto = let some = (lane_of_rank layout.offset ns ss layout.as_many c.last_axis-count.result.0 c.last_axis-count.result.1 last c.args.rank c.requires).some in
          let rest = mod_below c.args.rank c.last_axis-count.result.0 some in
          omega (arith, rest, long, same);
      within = let upto = (lane_of_rank layout.offset ns ss layout.as_many c.last_axis-count.result.0 c.last_axis-count.result.1 last c.args.rank c.requires).within in
          omega (arith, upto, long, same);
      elements = λ k below. let array = c.args.self.now in
          let layout = array.layout in
          let stride = c.last_axis-count.result.1 in
          let fits : FitsSigned w64 stride = search rules in
          let lies = rw (to_z-of_z w64 stride fits) at c.lane_from-lane.ensures.lane in
          let shown = c.over.ensures in
          let v = c.over.result in
          lane_opens v.lane.count k (stored_along (shown_by v.storage) v.lane.place v.lane.stride k) below
          ∙ (λ i. stored_along (shown_by (shown.storage i)) ((shown.lane.0 ∙ lies.0) i) ((shown.lane.2 ∙ lies.2) i) k)
          ∙ shown_along (shown_by c.borrowed.result) (g.S.Data.stored array.storage) c.borrowed.ensures c.place_of_rank.result stride k
          ∙ rank_listed (g.S.Data.stored array.storage) layout.offset ns ss (c.args.rank - c.args.rank % count) count stride
          (lane_of_rank layout.offset ns ss layout.as_many count stride last c.args.rank c.requires)
          c.place_of_rank.result c.place_of_rank.ensures array.inside k (let long = shown.lane.1 in let same = lies.1 in omega (arith, below, long, same));
      whole = let rank = c.args.rank in
          let long = c.over.ensures.lane.1 ∙ c.lane_from-lane.ensures.lane.1 in
          let parts = div-add-mod' rank count in
          let from : rank - rank % count ≡ rank / count * count = omega (arith, parts) in
          (long ∙ last.0, (rank / count, from ∙ ap (λ m. rank / count * m) (sym long)));
      stride = search rules;
    }

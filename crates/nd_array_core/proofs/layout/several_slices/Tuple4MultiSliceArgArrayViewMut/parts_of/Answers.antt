use Rattle.nd_array_core.proofs.NamesFromOtherCrates.{refl}
use Rattle.nd_array_core.specs.ArrayMeaning.{meaning_of}
use Rattle.nd_array_core.proofs.layout_lemmas.SeparateSliceLists.{four_apart, four_held, listed_part}
use Rattle.nd_array_core.proofs.layout.several_slices.Tuple4MultiSliceArgArrayViewMut.parts_of.Goals as goal

pub four_parts-requires-clause-held : goal.four_parts-requires-clause-held
unfolding meaning_of
four_parts-requires-clause-held g c = four_held c.args.view refl c.sliced_by-one.ensures c.sliced_by-two.ensures c.sliced_by-three.ensures c.sliced_by-four.ensures

pub four_parts-requires-clause-apart : goal.four_parts-requires-clause-apart
unfolding meaning_of
four_parts-requires-clause-apart g c = four_apart c.args.view refl c.requires c.sliced_by-one.ensures c.sliced_by-two.ensures c.sliced_by-three.ensures c.sliced_by-four.ensures

pub returns : goal.returns
unfolding meaning_of
returns g c = (
  listed_part c.args.view refl c.four_parts.result.0 c.sliced_by-one.ensures c.four_parts.ensures.first,
  listed_part c.args.view refl c.four_parts.result.1 c.sliced_by-two.ensures c.four_parts.ensures.second,
  listed_part c.args.view refl c.four_parts.result.2 c.sliced_by-three.ensures c.four_parts.ensures.third,
  listed_part c.args.view refl c.four_parts.result.3 c.sliced_by-four.ensures c.four_parts.ensures.fourth,
  c.four_parts.ensures.apart,
)

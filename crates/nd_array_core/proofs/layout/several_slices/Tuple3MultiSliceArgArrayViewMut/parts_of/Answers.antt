use Rattle.nd_array_core.proofs.NamesFromOtherCrates.{refl}
use Rattle.nd_array_core.specs.ArrayMeaning.{meaning_of}
use Rattle.nd_array_core.proofs.layout_lemmas.SeparateSliceLists.{three_apart, three_held, listed_part}
use Rattle.nd_array_core.proofs.layout.several_slices.Tuple3MultiSliceArgArrayViewMut.parts_of.Goals as goal

pub three_parts-requires-clause-held : goal.three_parts-requires-clause-held
unfolding meaning_of
three_parts-requires-clause-held g c = three_held c.args.view refl c.sliced_by-one.ensures c.sliced_by-two.ensures c.sliced_by-three.ensures

pub three_parts-requires-clause-apart : goal.three_parts-requires-clause-apart
unfolding meaning_of
three_parts-requires-clause-apart g c = three_apart c.args.view refl c.requires c.sliced_by-one.ensures c.sliced_by-two.ensures c.sliced_by-three.ensures

pub returns : goal.returns
unfolding meaning_of
returns g c = (
  listed_part c.args.view refl c.three_parts.result.0 c.sliced_by-one.ensures c.three_parts.ensures.first,
  listed_part c.args.view refl c.three_parts.result.1 c.sliced_by-two.ensures c.three_parts.ensures.second,
  listed_part c.args.view refl c.three_parts.result.2 c.sliced_by-three.ensures c.three_parts.ensures.third,
  c.three_parts.ensures.apart,
)

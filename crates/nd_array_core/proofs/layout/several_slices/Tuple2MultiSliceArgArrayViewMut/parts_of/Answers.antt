use Rattle.nd_array_core.proofs.NamesFromOtherCrates.{refl}
use Rattle.nd_array_core.specs.ArrayMeaning.{meaning_of}
use Rattle.nd_array_core.proofs.layout_lemmas.SeparateSliceLists.{apart, two_held, listed_part}
use Rattle.nd_array_core.proofs.layout.several_slices.Tuple2MultiSliceArgArrayViewMut.parts_of.Goals as goal

pub two_parts-requires-clause-held : goal.two_parts-requires-clause-held
unfolding meaning_of
two_parts-requires-clause-held g c = two_held c.args.view refl c.sliced_by-one.ensures c.sliced_by-two.ensures

pub two_parts-requires-clause-apart : goal.two_parts-requires-clause-apart
unfolding meaning_of
two_parts-requires-clause-apart g c = apart c.args.view refl c.sliced_by-one.ensures c.sliced_by-two.ensures c.requires.2

pub returns : goal.returns
unfolding meaning_of
returns g c = (
  listed_part c.args.view refl c.two_parts.result.0 c.sliced_by-one.ensures c.two_parts.ensures.first,
  listed_part c.args.view refl c.two_parts.result.1 c.sliced_by-two.ensures c.two_parts.ensures.second,
  c.two_parts.ensures.apart,
)

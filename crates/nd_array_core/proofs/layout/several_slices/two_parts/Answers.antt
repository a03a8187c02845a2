use Rattle.nd_array_core.proofs.NamesFromOtherCrates.{placement_of, held_by}
use Rattle.nd_array_core.specs.ArrayMeaning.{meaning_of, memory_layout_of}
use Rattle.nd_array_core.proofs.layout_lemmas.SeparateSliceLists.{outside_taken, outside_held}
use Rattle.nd_array_core.proofs.layout_lemmas.TakenAndLeftStorage.{seen_apart}
use Rattle.nd_array_core.proofs.layout.several_slices.two_parts.Goals as goal

pub part-requires : goal.part-requires
part-requires g c = outside_held (held_by c.args.storage) (held_by c.tied_part-first.new.storage) (placement_of c.args.layouts.0) c.tied_part-first.ensures.left (placement_of c.args.layouts.1) c.requires.apart c.requires.held.1

pub returns : goal.returns
unfolding meaning_of memory_layout_of
returns g c =
    let second = outside_taken (held_by c.args.storage) (held_by c.tied_part-first.new.storage) (placement_of c.args.layouts.0) c.tied_part-first.ensures.left (placement_of c.args.layouts.1) c.requires.apart c.part.result c.part.ensures.taken in
    record {
      tied = c.tied_part-first.ensures.tied;
      first = c.tied_part-first.ensures.taken;
      second = second;
      apart = seen_apart c.requires.apart c.tied_part-first.ensures.taken.0 second.0;
    }

use Rattle.nd_array_core.proofs.NamesFromOtherCrates.{placement_of, held_by}
use Rattle.nd_array_core.specs.ArrayMeaning.{meaning_of, memory_layout_of}
use Rattle.nd_array_core.proofs.layout_lemmas.SeparateSliceLists.{outside_taken, outside_held}
use Rattle.nd_array_core.proofs.layout_lemmas.TakenAndLeftStorage.{seen_apart}
use Rattle.nd_array_core.proofs.layout.several_slices.four_parts.Goals as goal

pub three_parts-second-requires-clause-held : goal.three_parts-second-requires-clause-held
three_parts-second-requires-clause-held g c =
    let m = held_by c.args.storage in let rest = held_by c.tied_part-first.new.storage in
    let one = placement_of c.args.layouts.0 in let left = c.tied_part-first.ensures.left in
    let apart = c.requires.apart in let held = c.requires.held in
    (outside_held m rest one left (placement_of c.args.layouts.1.0) apart.1 held.1.0, (outside_held m rest one left (placement_of c.args.layouts.1.1.0) apart.2 held.1.1.0, outside_held m rest one left (placement_of c.args.layouts.1.1.1) apart.3 held.1.1.1))

pub returns : goal.returns
unfolding meaning_of memory_layout_of
returns g c =
    let m = held_by c.args.storage in let rest = held_by c.tied_part-first.new.storage in
    let one = placement_of c.args.layouts.0 in let left = c.tied_part-first.ensures.left in
    let first = c.tied_part-first.ensures.taken in let others = c.three_parts-second.ensures in let apart = c.requires.apart in
    let second = outside_taken m rest one left (placement_of c.args.layouts.1.0) apart.1 c.three_parts-second.result.0 others.first in
    let third = outside_taken m rest one left (placement_of c.args.layouts.1.1.0) apart.2 c.three_parts-second.result.1 others.second in
    let fourth = outside_taken m rest one left (placement_of c.args.layouts.1.1.1) apart.3 c.three_parts-second.result.2 others.third in
    record {
      tied = c.tied_part-first.ensures.tied;
      first = first;
      second = second;
      third = third;
      fourth = fourth;
      apart = (others.apart, seen_apart apart.1 first.0 second.0, seen_apart apart.2 first.0 third.0, seen_apart apart.3 first.0 fourth.0);
    }

use Rattle.nd_array_core.proofs.NamesFromOtherCrates.{on_ok_weaker, placement_of}
use Rattle.nd_array_core.specs.ArrayMeaning.{meaning_of}
use Rattle.nd_array_core.proofs.growth_lemmas.AppendInFilledStorage.{tail_put}
use Rattle.nd_array_core.proofs.growth.append_to_vec.put_after.Goals as goal

pub returns-clause-put : goal.returns-clause-put
unfolding meaning_of
returns-clause-put g c =
    let array = c.args.array.now in
    on_ok_weaker c.list_or_leave.result
    (tail_put _ (placement_of c.args.grown.now) (placement_of array.layout) (placement_of c.in_tail_order.result) c.args.axis c.args.from c.in_tail_order.ensures array.inside c.args.items.now.items c.list_or_leave.new.items.items c.requires.count)
    c.list_or_leave.ensures.items

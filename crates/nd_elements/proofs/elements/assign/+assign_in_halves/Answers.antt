use Rattle.nd_elements.proofs.NamesFromOtherCrates.{rules, on_ok_weaker, on_err_weaker, placement_of}
use Rattle.nd_elements.proofs.elements_lemmas.StorageInHalves.{low_apart, high_apart, low_holds, low_others_hold, high_others_hold, low_clones, high_clones, high_holds, both_assigned, low_stopped, high_stopped, both_hold, low_still_holds, both_stay, low_alone_stays, step_refused}
use Rattle.nd_elements.proofs.elements.assign.+assign_in_halves.Goals as goal

pub assign_in_halves-requires : goal.assign_in_halves-requires
assign_in_halves-requires g t c κs within =
    let halved = c.in-Some.ensures in
    let others = g.Z.Data.stored c.args.others.now in
    let smaller = halved.low_smaller in
    (search rules, (search rules, (search rules, (search rules, (search rules, (search rules, (search rules, (halved.low_alike, (low_apart halved c.requires.apart, (low_holds halved (g.S.Data.stored c.args.storage.now) c.requires.holds, (low_others_hold halved others c.requires.others_hold, low_clones halved others g.A.Clone.is_clone c.requires.clones)))))))))))

pub assign_in_halves-requires-in-Ok : goal.assign_in_halves-requires-in-Ok
assign_in_halves-requires-in-Ok g t c κs within =
    let halved = c.in-Some.ensures in
    let others = g.Z.Data.stored c.args.others.now in
    let smaller = halved.high_smaller in
    let holds = high_holds halved c.args.layout.now.as_many c.requires.apart (g.S.Data.stored c.args.storage.now) (g.S.Data.stored c.assign_in_halves.new.storage) c.assign_in_halves.ensures.others c.requires.holds in
    (search rules, (search rules, (search rules, (search rules, (search rules, (search rules, (search rules, (halved.high_alike, (high_apart halved c.requires.apart, (holds, (high_others_hold halved others c.requires.others_hold, high_clones halved others g.A.Clone.is_clone c.requires.clones)))))))))))

pub returns-in-Ok-clause-assigned : goal.returns-in-Ok-clause-assigned
returns-in-Ok-clause-assigned g t c =
    on_ok_weaker c.assign_in_halves-in-Ok.result
    (both_assigned c.in-Some.ensures c.requires.alike c.args.layout.now.as_many c.requires.apart (g.Z.Data.stored c.args.others.now) (g.S.Data.stored c.args.storage.now) (g.S.Data.stored c.assign_in_halves.new.storage) (g.S.Data.stored c.assign_in_halves-in-Ok.new.storage) c.assign_in_halves-in-Ok.ensures.others c.in-Ok.ensures.assigned)
    c.assign_in_halves-in-Ok.ensures.assigned

pub returns-in-Ok-clause-stopped : goal.returns-in-Ok-clause-stopped
returns-in-Ok-clause-stopped g t c =
    on_err_weaker c.assign_in_halves-in-Ok.result
    (high_stopped c.in-Some.ensures c.requires.alike c.args.layout.now.as_many c.requires.apart (g.Z.Data.stored c.args.others.now) (g.S.Data.stored c.args.storage.now) (g.S.Data.stored c.assign_in_halves.new.storage) (g.S.Data.stored c.assign_in_halves-in-Ok.new.storage) c.assign_in_halves.ensures.others c.assign_in_halves-in-Ok.ensures.others c.in-Ok.ensures.assigned)
    c.assign_in_halves-in-Ok.ensures.stopped

pub returns-in-Ok-clause-holds : goal.returns-in-Ok-clause-holds
returns-in-Ok-clause-holds g t c =
    both_hold c.in-Some.ensures c.requires.alike c.args.layout.now.as_many c.requires.apart (g.Z.Data.stored c.args.others.now) (g.S.Data.stored c.args.storage.now) (g.S.Data.stored c.assign_in_halves.new.storage) (g.S.Data.stored c.assign_in_halves-in-Ok.new.storage)
    c.assign_in_halves-in-Ok.ensures.others c.assign_in_halves.ensures.holds c.assign_in_halves-in-Ok.ensures.holds

pub returns-in-Err-clause-stopped : goal.returns-in-Err-clause-stopped
returns-in-Err-clause-stopped g t c =
    let mid = g.S.Data.stored c.assign_in_halves.new.storage in
    low_stopped c.in-Some.ensures c.requires.alike c.args.layout.now.as_many c.requires.apart (g.Z.Data.stored c.args.others.now) (g.S.Data.stored c.args.storage.now) mid mid c.assign_in_halves.ensures.others c.in-Err.ensures.stopped

pub returns-in-Err-clause-holds : goal.returns-in-Err-clause-holds
returns-in-Err-clause-holds g t c =
    let mid = g.S.Data.stored c.assign_in_halves.new.storage in
    low_still_holds c.in-Some.ensures c.requires.alike c.args.layout.now.as_many c.requires.apart (g.Z.Data.stored c.args.others.now) (g.S.Data.stored c.args.storage.now) mid mid c.assign_in_halves.ensures.others c.requires.holds c.assign_in_halves.ensures.holds

pub returns-in-Ok-clause-refused : goal.returns-in-Ok-clause-refused
returns-in-Ok-clause-refused g t c =
    on_err_weaker c.assign_in_halves-in-Ok.result
    (step_refused (placement_of c.args.paired.now) (placement_of c.in-Some.halves.upper_other) c.in-Some.ensures.source c.in-Some.ensures.high_second (g.Z.Data.stored c.args.others.now) g.A.Clone.is_infallible)
    c.assign_in_halves-in-Ok.ensures.refused

pub returns-in-Err-clause-refused : goal.returns-in-Err-clause-refused
returns-in-Err-clause-refused g t c = step_refused (placement_of c.args.paired.now) (placement_of c.in-Some.halves.lower_other) (λ i. i) c.in-Some.ensures.low_second (g.Z.Data.stored c.args.others.now) g.A.Clone.is_infallible c.in-Err.ensures.refused

pub returns-in-Ok-clause-others : goal.returns-in-Ok-clause-others
returns-in-Ok-clause-others g t c =
    both_stay c.in-Some.ensures (g.S.Data.stored c.args.storage.now) (g.S.Data.stored c.assign_in_halves.new.storage) (g.S.Data.stored c.assign_in_halves-in-Ok.new.storage) c.assign_in_halves.ensures.others c.assign_in_halves-in-Ok.ensures.others

pub returns-in-Err-clause-others : goal.returns-in-Err-clause-others
returns-in-Err-clause-others g t c = low_alone_stays c.in-Some.ensures (g.S.Data.stored c.args.storage.now) (g.S.Data.stored c.assign_in_halves.new.storage) c.assign_in_halves.ensures.others

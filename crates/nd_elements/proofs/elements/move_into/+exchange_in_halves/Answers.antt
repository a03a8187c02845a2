use Rattle.nd_elements.proofs.NamesFromOtherCrates.{rules, ◌∙◌}
use Rattle.nd_elements.proofs.elements_lemmas.StorageInHalves.{low_apart, high_apart, low_holds, low_others_hold, high_holds, high_same, halved_other, both_assigned, both_hold, both_stay}
use Rattle.nd_elements.proofs.elements.move_into.+exchange_in_halves.Goals as goal

pub exchange_in_halves-requires : goal.exchange_in_halves-requires
exchange_in_halves-requires g t c κs within =
    let halved = c.in-Some.ensures in
    let smaller = halved.low_smaller in
    let alike = halved.low_alike in
    let apart = low_apart halved c.requires.apart in
    let others_apart = low_apart (halved_other c.requires.alike halved) c.requires.others_apart in
    let holds = low_holds halved (g.S.Data.stored c.args.storage.now) c.requires.holds in
    let others_hold = low_others_hold halved (g.Z.Data.stored c.args.others.now) c.requires.others_hold in
    search rules

pub exchange_in_halves-requires-2 : goal.exchange_in_halves-requires-2
exchange_in_halves-requires-2 g t c κs within =
    let halved = c.in-Some.ensures in
    let other_halved = halved_other c.requires.alike halved in
    let first = c.exchange_in_halves.ensures in
    let smaller = halved.high_smaller in
    let alike = halved.high_alike in
    let apart = high_apart halved c.requires.apart in
    let others_apart = high_apart other_halved c.requires.others_apart in
    let holds = high_holds halved c.args.layout.now.as_many c.requires.apart (g.S.Data.stored c.args.storage.now) (g.S.Data.stored c.exchange_in_halves.new.storage) first.others c.requires.holds in
    let others_hold = high_holds other_halved c.args.paired.now.as_many c.requires.others_apart (g.Z.Data.stored c.args.others.now) (g.Z.Data.stored c.exchange_in_halves.new.others) first.others_left c.requires.others_hold in
    search rules

pub returns-clause-moved : goal.returns-clause-moved
returns-clause-moved g t c =
    let theirs = g.Z.Data.stored c.args.others.now in
    both_assigned c.in-Some.ensures c.requires.alike c.args.layout.now.as_many c.requires.apart theirs (g.S.Data.stored c.args.storage.now) (g.S.Data.stored c.exchange_in_halves.new.storage) (g.S.Data.stored c.exchange_in_halves-2.new.storage) c.exchange_in_halves-2.ensures.others c.exchange_in_halves.ensures.moved
    (λ j. c.exchange_in_halves-2.ensures.moved j ∙ high_same (halved_other c.requires.alike c.in-Some.ensures) c.args.paired.now.as_many c.requires.others_apart theirs (g.Z.Data.stored c.exchange_in_halves.new.others) c.exchange_in_halves.ensures.others_left j)

pub returns-clause-holds : goal.returns-clause-holds
returns-clause-holds g t c =
    both_hold c.in-Some.ensures c.requires.alike c.args.layout.now.as_many c.requires.apart (g.Z.Data.stored c.args.others.now) (g.S.Data.stored c.args.storage.now) (g.S.Data.stored c.exchange_in_halves.new.storage) (g.S.Data.stored c.exchange_in_halves-2.new.storage)
    c.exchange_in_halves-2.ensures.others c.exchange_in_halves.ensures.holds c.exchange_in_halves-2.ensures.holds

pub returns-clause-others : goal.returns-clause-others
returns-clause-others g t c =
    both_stay c.in-Some.ensures (g.S.Data.stored c.args.storage.now) (g.S.Data.stored c.exchange_in_halves.new.storage) (g.S.Data.stored c.exchange_in_halves-2.new.storage) c.exchange_in_halves.ensures.others c.exchange_in_halves-2.ensures.others

pub returns-clause-others_left : goal.returns-clause-others_left
returns-clause-others_left g t c =
    both_stay (halved_other c.requires.alike c.in-Some.ensures) (g.Z.Data.stored c.args.others.now) (g.Z.Data.stored c.exchange_in_halves.new.others) (g.Z.Data.stored c.exchange_in_halves-2.new.others) c.exchange_in_halves.ensures.others_left c.exchange_in_halves-2.ensures.others_left

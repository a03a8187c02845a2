use Rattle.nd_elements.proofs.NamesFromOtherCrates.{rules}
use Rattle.nd_elements.proofs.elements_lemmas.StorageInHalves.{low_apart, high_apart, low_holds, low_others_hold, high_others_hold, high_holds, both_hold, both_stay}
use Rattle.nd_elements.proofs.elements_lemmas.ZippedLayouts.{low_zippable, high_zippable, halves_zipped}
use Rattle.nd_elements.proofs.elements.zip_mut_with.+zip_in_halves.Goals as goal

pub zip_in_halves-now-requires : goal.zip_in_halves-now-requires
zip_in_halves-now-requires g t c κs within =
    let halved = c.in-Some.ensures in
    let old = g.S.Data.stored c.args.storage.now in
    let others = g.Z.Data.stored c.args.others.now in
    let smaller = halved.low_smaller in
    (search rules, (search rules, (search rules, (search rules, (search rules, (search rules, (search rules, (search rules, (search rules, (halved.low_alike, (low_apart halved c.requires.apart, (low_holds halved old c.requires.holds, (low_others_hold halved others c.requires.others_hold, low_zippable g.F.FnMut others halved old c.args.f c.requires.callable)))))))))))))

pub zip_in_halves-requires : goal.zip_in_halves-requires
zip_in_halves-requires g t c κs within =
    let halved = c.in-Some.ensures in
    let many = c.args.layout.now.as_many in
    let old = g.S.Data.stored c.args.storage.now in
    let mid = g.S.Data.stored c.zip_in_halves-now.new.storage in
    let others = g.Z.Data.stored c.args.others.now in
    let first = c.zip_in_halves-now.ensures in
    let smaller = halved.high_smaller in
    (search rules, (search rules, (search rules, (search rules, (search rules, (search rules, (search rules, (search rules, (search rules, (halved.high_alike, (high_apart halved c.requires.apart, (high_holds halved many c.requires.apart old mid first.others c.requires.holds, (high_others_hold halved others c.requires.others_hold, high_zippable g.F.FnMut others halved many c.requires.apart old mid first.others c.args.f c.zip_in_halves-now.result first.visits c.requires.callable)))))))))))))

pub returns-clause-visits : goal.returns-clause-visits
returns-clause-visits g t c =
    halves_zipped g.F.FnMut (g.Z.Data.stored c.args.others.now) c.in-Some.ensures c.args.layout.now.as_many c.requires.apart (g.S.Data.stored c.args.storage.now) (g.S.Data.stored c.zip_in_halves-now.new.storage) c.zip_in_halves-now.ensures.others c.args.f c.zip_in_halves-now.result c.zip_in_halves-now.ensures.visits
    (g.S.Data.stored c.zip_in_halves.new.storage) c.zip_in_halves.result c.zip_in_halves.ensures.others c.zip_in_halves.ensures.visits

pub returns-clause-holds : goal.returns-clause-holds
returns-clause-holds g t c =
    let old = g.S.Data.stored c.args.storage.now in
    both_hold c.in-Some.ensures c.requires.alike c.args.layout.now.as_many c.requires.apart old old (g.S.Data.stored c.zip_in_halves-now.new.storage) (g.S.Data.stored c.zip_in_halves.new.storage) c.zip_in_halves.ensures.others c.zip_in_halves-now.ensures.holds c.zip_in_halves.ensures.holds

pub returns-clause-others : goal.returns-clause-others
returns-clause-others g t c =
    both_stay c.in-Some.ensures (g.S.Data.stored c.args.storage.now) (g.S.Data.stored c.zip_in_halves-now.new.storage) (g.S.Data.stored c.zip_in_halves.new.storage) c.zip_in_halves-now.ensures.others c.zip_in_halves.ensures.others

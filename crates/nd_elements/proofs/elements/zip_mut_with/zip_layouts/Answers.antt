use Rattle.nd_elements.proofs.NamesFromOtherCrates.{placement_of}
use Rattle.nd_elements.proofs.elements_lemmas.StorageInHalves.{step_apart}
use Rattle.nd_elements.proofs.elements_lemmas.ZippedLayouts.{turned_zippable, turned_zipped}
use Rattle.nd_elements.proofs.elements.zip_mut_with.zip_layouts.Goals as goal

pub zip_in_order-requires-clause-apart : goal.zip_in_order-requires-clause-apart
zip_in_order-requires-clause-apart g c =
    step_apart (placement_of c.args.layout.now) (placement_of c.in-Some.rows) c.in-Some.ensures.source c.in-Some.ensures.first c.requires.apart

pub zip_in_order-requires-clause-callable : goal.zip_in_order-requires-clause-callable
zip_in_order-requires-clause-callable g c =
    turned_zippable g.F.FnMut (g.Z.Data.stored c.args.others.now) c.in-Some.ensures (g.S.Data.stored c.args.storage.now) c.args.f c.requires.callable

pub returns-in-Some-clause-visits : goal.returns-in-Some-clause-visits
returns-in-Some-clause-visits g c =
    (c.zip_in_order.result, turned_zipped g.F.FnMut (g.Z.Data.stored c.args.others.now) c.in-Some.ensures (g.S.Data.stored c.args.storage.now) (g.S.Data.stored c.zip_in_order.new.storage) c.args.f c.zip_in_order.result c.zip_in_order.ensures.visits)

pub returns-then-not-is_worth_turning-clause-visits : goal.returns-then-not-is_worth_turning-clause-visits
returns-then-not-is_worth_turning-clause-visits g c = (c.zip_in_order-then-not-is_worth_turning.result, c.zip_in_order-then-not-is_worth_turning.ensures.visits)

pub zip_in_halves-requires-clause-callable : goal.zip_in_halves-requires-clause-callable
zip_in_halves-requires-clause-callable g c =
    turned_zippable g.F.FnMut (g.Z.Data.stored c.args.others.now) c.turned_alike-turned.ensures (g.S.Data.stored c.args.storage.now) c.args.f c.requires.callable

pub returns-clause-visits : goal.returns-clause-visits
returns-clause-visits g c =
    (c.zip_in_halves.result, turned_zipped g.F.FnMut (g.Z.Data.stored c.args.others.now) c.turned_alike-turned.ensures (g.S.Data.stored c.args.storage.now) (g.S.Data.stored c.zip_in_halves.new.storage) c.args.f c.zip_in_halves.result c.zip_in_halves.ensures.visits)

pub zip_in_halves-requires-clause-apart : goal.zip_in_halves-requires-clause-apart
zip_in_halves-requires-clause-apart g c =
    step_apart (placement_of c.args.layout.now) (placement_of c.turned_alike-turned.result.0) c.turned_alike-turned.ensures.source c.turned_alike-turned.ensures.first c.requires.apart

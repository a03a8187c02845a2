use Rattle.nd_elements.proofs.NamesFromOtherCrates.{placement_of}
use Rattle.nd_elements.proofs.elements_lemmas.StorageInHalves.{step_apart}
use Rattle.nd_elements.proofs.elements.move_into.exchange_layouts.Goals as goal

pub exchange_in_order-requires-clause-apart : goal.exchange_in_order-requires-clause-apart
exchange_in_order-requires-clause-apart g c = step_apart (placement_of c.args.layout.now) (placement_of c.in-Some.rows) c.in-Some.ensures.source c.in-Some.ensures.first c.requires.apart

pub exchange_in_order-requires-clause-others_apart : goal.exchange_in_order-requires-clause-others_apart
exchange_in_order-requires-clause-others_apart g c = step_apart (placement_of c.args.paired.now) (placement_of c.in-Some.other_rows) c.in-Some.ensures.source c.in-Some.ensures.second c.requires.others_apart

pub exchange_in_halves-requires-clause-apart : goal.exchange_in_halves-requires-clause-apart
exchange_in_halves-requires-clause-apart g c = step_apart (placement_of c.args.layout.now) (placement_of c.turned_alike-turned.result.0) c.turned_alike-turned.ensures.source c.turned_alike-turned.ensures.first c.requires.apart

pub exchange_in_halves-requires-clause-others_apart : goal.exchange_in_halves-requires-clause-others_apart
exchange_in_halves-requires-clause-others_apart g c = step_apart (placement_of c.args.paired.now) (placement_of c.turned_alike-turned.result.1) c.turned_alike-turned.ensures.source c.turned_alike-turned.ensures.second c.requires.others_apart

use Rattle.nd_array_core.proofs.NamesFromOtherCrates.{refl, sym}
use Rattle.nd_array_core.specs.ArrayMeaning.{meaning_of, memory_layout_of}
use Rattle.nd_array_core.proofs.elements.move_into.Array+A+D.move_into.Goals as goal

pub exchange_layouts-requires-clause-alike : goal.exchange_layouts-requires-clause-alike
unfolding meaning_of
exchange_layouts-requires-clause-alike g c = sym c.requires.same

pub exchange_layouts-requires-clause-others_apart : goal.exchange_layouts-requires-clause-others_apart
exchange_layouts-requires-clause-others_apart g c = c.args.self.separated refl

pub invariant_of-to : goal.invariant_of-to
invariant_of-to g c = record { inside = c.exchange_layouts.ensures.holds; separated = c.args.to.now.separated }

pub returns-clause-moved : goal.returns-clause-moved
unfolding meaning_of
returns-clause-moved g c = c.exchange_layouts.ensures.moved

pub returns-clause-frame : goal.returns-clause-frame
unfolding meaning_of memory_layout_of
returns-clause-frame g c = (refl, refl, (λ i. refl), c.exchange_layouts.ensures.others, c.exchange_layouts.ensures.frame, refl)

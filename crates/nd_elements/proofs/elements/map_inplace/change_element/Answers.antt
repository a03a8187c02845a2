use Rattle.std.proofs.Common.{Some, refl, ap, ◌∙◌}
use Rattle.std.specs.Prelude.{if◌then◌else◌}
use Rattle.std.specs.Cmp.{unsigned_Decides}
use Rattle.nd_elements.proofs.elements_lemmas.ReplacedElements.{written_elsewhere}
use denote.MutBor.{at_last}
use Rattle.nd_elements.proofs.elements.map_inplace.change_element.Goals as goal

pub returns-clause-called : goal.returns-clause-called
returns-clause-called g c =
    let stored = g.S.Data.stored c.args.storage.now in (
      c.element_mut.result.now,
      c.f.new.arg2,
      c.element_mut.ensures.value,
      g.met.S.DataMut.element_written c.args.storage.now c.args.place c.f.new.arg2 c.args.place c.requires.holds ∙ ap (λ t. if t then Some c.f.new.arg2 else stored c.args.place) ((unsigned_Decides c.args.place c.args.place).1 refl),
      record { shown = c.element_mut.result; shows = refl; left = at_last c.element_mut.result c.f.new.arg2; called = c.f.ensures; leaves = refl },
    )

pub returns-clause-left : goal.returns-clause-left
returns-clause-left g c =
    let old = c.args.storage.now in
    let x = c.f.new.arg2 in
    written_elsewhere (g.S.Data.stored old) (g.S.Data.stored (g.S.Data.with_element old c.args.place x).0) c.args.place x (λ q. g.met.S.DataMut.element_written old c.args.place x q c.requires.holds)

pub returns-clause-frame : goal.returns-clause-frame
returns-clause-frame g c = g.met.S.DataMut.element_frame c.args.storage.now c.args.place c.f.new.arg2

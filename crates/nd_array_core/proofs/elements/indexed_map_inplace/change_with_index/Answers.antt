use Rattle.std.proofs.Common.{Some, refl, ap, ◌∙◌}
use Rattle.std.specs.Prelude.{if◌then◌else◌}
use Rattle.std.specs.Cmp.{unsigned_Decides}
use denote.MutBor.{at_last}
use Rattle.nd_array_core.proofs.elements.indexed_map_inplace.change_with_index.Goals as goal

pub returns-clause-called : goal.returns-clause-called
returns-clause-called g c = (
  c.element_mut.result.now,
  c.f.new.arg3,
  c.element_mut.ensures.value,
  g.met.S.DataMut.element_written c.args.storage.now c.args.place c.f.new.arg3 c.args.place c.requires.holds ∙ ap (λ t. if t then Some c.f.new.arg3 else (g.S.Data.stored c.args.storage.now) c.args.place) ((unsigned_Decides c.args.place c.args.place).1 refl),
  record { lent_before = c.element_mut.result; value_before = refl; lent_after = at_last c.element_mut.result c.f.new.arg3; call_made = c.f.ensures; value_after = refl },
)

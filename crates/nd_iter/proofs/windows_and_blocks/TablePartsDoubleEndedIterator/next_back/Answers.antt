use Rattle.std.proofs.Common.{arith, sym}
use Rattle.std.proofs.lemmas.Grind.{common_steps}
use Rattle.nd_array_core.specs.ArrayMeaning.{meaning_of}
use Rattle.nd_iter.specs.WindowsAndBlocks.{numbered_part}
use Rattle.nd_iter.proofs.ListEndsTaken.{last_step, last_nearer}
use Rattle.nd_iter.proofs.windows_and_blocks.TablePartsDoubleEndedIterator.next_back.Goals as goal

pub returns-clause-steps : goal.returns-clause-steps
returns-clause-steps g c =
    let it = c.self.inside in
    let ahead = c.self.invariant.ahead in
    last_step (numbered_part (meaning_of it.table.now) it.grid.height it.grid.width it.grid.down it.grid.right) it.front it.back c.args.self.now (sym c.self.view_is) (omega (arith, ahead, c.if-self.false)) (_) c.numbered.ensures

pub returns-clause-goes : goal.returns-clause-goes
returns-clause-goes g c =
    let it = c.self.inside in
    let ahead = c.self.invariant.ahead in
    record {
      on = λ _. (tt, tt, last_nearer (numbered_part (meaning_of it.table.now) it.grid.height it.grid.width it.grid.down it.grid.right) it.front it.back c.args.self.now (sym c.self.view_is) (omega (arith, ahead, c.if-self.false)));
      keeps = tt;
      rests = λ _. tt;
    }

pub invariant_of-self : goal.invariant_of-self
invariant_of-self g c = grind (arith, common_steps)

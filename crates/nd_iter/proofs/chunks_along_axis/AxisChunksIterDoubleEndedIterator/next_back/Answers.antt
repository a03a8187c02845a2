use Rattle.std.proofs.Common.{arith, sym}
use Rattle.nd_array_core.specs.ArrayMeaning.{meaning_of}
use Rattle.nd_iter.specs.ChunksAlongAxis.{chunk_at}
use Rattle.nd_iter.specs.IteratedElements.{listing}
use Rattle.nd_iter.proofs.ListEndsTaken.{last_step, last_nearer}
use Rattle.nd_iter.proofs.chunks_along_axis.AxisChunksIterDoubleEndedIterator.next_back.Goals as goal

pub returns-clause-steps : goal.returns-clause-steps
returns-clause-steps g c =
    let it = c.self.inside in
    let ahead = c.self.invariant.ahead in
    last_step (λ k. listing (chunk_at (meaning_of it.array.now) it.axis it.size k)) it.front it.back c.args.self.now (sym c.self.view_is) (omega (arith, ahead, c.if-self.false)) (listing (meaning_of c.numbered.result)) c.numbered.ensures

pub returns-clause-goes : goal.returns-clause-goes
returns-clause-goes g c =
    let it = c.self.inside in
    let ahead = c.self.invariant.ahead in
    record {
      on = λ _. (tt, tt, last_nearer (λ k. listing (chunk_at (meaning_of it.array.now) it.axis it.size k)) it.front it.back c.args.self.now (sym c.self.view_is) (omega (arith, ahead, c.if-self.false)));
      keeps = tt;
      rests = λ _. tt;
    }

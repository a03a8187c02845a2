use Rattle.nd_elements.proofs.NamesFromOtherCrates.{arith}
use Rattle.nd_elements.specs.CallsInFreeOrder.{AnswersNothing, TakesNothing}
use Rattle.nd_elements.proofs.ClosureResultsInOrder.{answered_none, answered_next, answered_more, answered_all}
use Rattle.nd_elements.proofs.base.from_shape_fn.answers_for_each.Goals as goal

pub loop-rank-init : goal.loop-rank-init
loop-rank-init g c = (
  c.requires.room,
  c.requires.empty.1,
  answered_none (AnswersNothing g.F.FnMut) (g.D.Dimension.lengths c.args.dim.now, c.args._order) c.args.f c.args.room.items c.requires.empty.0,
)

pub f-requires : goal.f-requires
f-requires g c =
    answered_next (AnswersNothing g.F.FnMut) (g.D.Dimension.lengths c.args.dim.now, c.args._order) (TakesNothing g.F.FnMut) c.args.f c.loop-rank.items.items c.loop-rank.rank c.loop-rank.f (omega (arith, c.size-rank-end.ensures, c.loop-rank-test.true)) c.requires.callable c.loop-rank.invariant.2

pub loop-rank-preserved : goal.loop-rank-preserved
loop-rank-preserved g c = (
  omega (arith, c.loop-rank.invariant.0, c.push_reserved.ensures.capacity),
  omega (arith, c.loop-rank.invariant.1, c.push_reserved.ensures.len),
  answered_more (AnswersNothing g.F.FnMut) (g.D.Dimension.lengths c.args.dim.now, c.args._order) c.args.f c.loop-rank.items.items c.push_reserved.new.self.items c.loop-rank.rank c.loop-rank.f c.f.new.self c.f.result (omega (arith, c.size-rank-end.ensures, c.loop-rank-test.true)) c.push_reserved.ensures.items c.f.ensures c.loop-rank.invariant.2,
)

pub returns-clause-visits : goal.returns-clause-visits
returns-clause-visits g c =
    answered_all (AnswersNothing g.F.FnMut) (g.D.Dimension.lengths c.args.dim.now, c.args._order) c.args.f c.loop-rank.items.items c.loop-rank.rank c.loop-rank.f (omega (arith, c.size-rank-end.ensures, c.loop-rank-test.false)) c.loop-rank.invariant.2

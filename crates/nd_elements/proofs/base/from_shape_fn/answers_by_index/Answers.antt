use Rattle.nd_elements.proofs.NamesFromOtherCrates.{◌≡◌, ◌+◌, ◌∙◌, length, arith}
use Rattle.nd_elements.specs.CallsInFreeOrder.{AnswersIndex, TakesIndex}
use Rattle.nd_elements.proofs.ClosureResultsInOrder.{answered_none, answered_next, answered_more, answered_all}
use Rattle.nd_elements.proofs.along_lemmas.IndexesLaneByLane.{no_axes_index, no_axes_size}
use Rattle.nd_elements.proofs.base.from_shape_fn.answers_by_index.Goals as goal

pub f-requires : goal.f-requires
f-requires g c =
    let ns = g.D.Dimension.lengths c.args.dim.now in
    let none : length ns ≡ 0 = omega (arith, c.ndim.ensures.value, c.if-ndim-eq0.true) in
    let one = no_axes_size ns none in
    let start = answered_none (AnswersIndex g.F.FnMut g.D.IntoPattern.pattern_lengths) (ns, c.args.order) c.args.f c.args.room.items c.requires.empty.0 in
    let index = c.into_pattern.ensures ∙ no_axes_index c.args.order ns none in
    answered_next (AnswersIndex g.F.FnMut g.D.IntoPattern.pattern_lengths) (ns, c.args.order) (TakesIndex g.F.FnMut g.D.IntoPattern.pattern_lengths) c.args.f c.args.room.items 0 c.args.f (omega (arith, one)) c.requires.callable start c.into_pattern.result index

pub returns-then-size-eq0-clause-visits : goal.returns-then-size-eq0-clause-visits
returns-then-size-eq0-clause-visits g c =
    let ns = g.D.Dimension.lengths c.args.dim.now in
    answered_all (AnswersIndex g.F.FnMut g.D.IntoPattern.pattern_lengths) (ns, c.args.order) c.args.f c.args.room.items 0 c.args.f (omega (arith, c.size.ensures, c.if-size-eq0.true)) (answered_none (AnswersIndex g.F.FnMut g.D.IntoPattern.pattern_lengths) (ns, c.args.order) c.args.f c.args.room.items c.requires.empty.0)

pub returns-then-ndim-eq0 : goal.returns-then-ndim-eq0
returns-then-ndim-eq0 g c =
    let ns = g.D.Dimension.lengths c.args.dim.now in
    let none : length ns ≡ 0 = omega (arith, c.ndim.ensures.value, c.if-ndim-eq0.true) in
    let one = no_axes_size ns none in record {
      count =
          omega (arith, one, c.requires.empty.1, c.push_reserved.ensures.len);
      visits =
          let start = answered_none (AnswersIndex g.F.FnMut g.D.IntoPattern.pattern_lengths) (ns, c.args.order) c.args.f c.args.room.items c.requires.empty.0 in
          let index = c.into_pattern.ensures ∙ no_axes_index c.args.order ns none in
          let done = answered_more (AnswersIndex g.F.FnMut g.D.IntoPattern.pattern_lengths) (ns, c.args.order) c.args.f c.args.room.items c.push_reserved.new.self.items 0 c.args.f c.f.new.self c.f.result (omega (arith, one)) c.push_reserved.ensures.items (c.into_pattern.result, index, c.f.ensures) start in
          answered_all (AnswersIndex g.F.FnMut g.D.IntoPattern.pattern_lengths) (ns, c.args.order) c.args.f c.push_reserved.new.self.items (0 + 1) c.f.new.self (omega (arith, one)) done;
    }

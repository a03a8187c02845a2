use Rattle.std.proofs.Common.{◌+◌, get_or, map, ap, ◌∙◌, arith}
use Rattle.std.proofs.lemmas.List.{length-map, take_all}
use Rattle.nd_shape_and_slice.proofs.ListEdits.{got_mapped}
use Rattle.nd_array_core.specs.ArrayMeaning.{shape_of}
use Rattle.nd_array_core.specs.growth.AppendEach.{lengths_along}
use Rattle.nd_stacking.proofs.ConcatenationShapeChecks.{lengths_more, lengths_within}
use Rattle.nd_run.proofs.concatenate_and_stack.lengths_together.Goals as goal

pub loop-other-preserved : goal.loop-other-preserved
loop-other-preserved g c =
    let held = g.T.HoldsArray.held in
    let other = c.other-item.result in
    let k = c.loop-other.other-index in
    let at = got_mapped held c.args.others.now k other c.loop-other-test.true c.other-item.is in
    let more = lengths_more c.args.axis (map held c.args.others.now) k (held other) at in
    let len = c.length_at.ensures ∙ ap (λ m. get_or m.shape c.args.axis 0) c.array.ensures in
    let sum = (c.in-Some.ensures {u = tt}).1 in
    let before = c.loop-other.invariant in
    omega (arith, more, len, sum, before)

pub returns-in-None-clause-many : goal.returns-in-None-clause-many
returns-in-None-clause-many g c = λ _.
    let held = g.T.HoldsArray.held in
    let other = c.other-item.result in
    let k = c.loop-other.other-index in
    let at = got_mapped held c.args.others.now k other c.loop-other-test.true c.other-item.is in
    let within = lengths_within c.args.axis (map held c.args.others.now) k (held other) at in
    let len = c.length_at.ensures ∙ ap (λ m. get_or m.shape c.args.axis 0) c.array.ensures in
    let past = c.in-None.ensures {u = tt} in
    let before = c.loop-other.invariant in
    omega (arith, within, len, past, before)

pub returns-clause-total : goal.returns-clause-total
returns-clause-total g c =
    let all = take_all c.loop-other.other-index (map g.T.HoldsArray.held c.args.others.now) (let count = length-map c.args.others.now g.T.HoldsArray.held in let done = c.loop-other-test.false in omega (arith, count, done)) in
    c.loop-other.invariant ∙ ap (λ ms. get_or (shape_of c.args.array.now) c.args.axis 0 + lengths_along c.args.axis ms) all

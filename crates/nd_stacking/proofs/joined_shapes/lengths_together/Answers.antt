use Rattle.std.proofs.Common.{◌≡◌, get_or, ap, ◌∙◌, arith}
use Rattle.nd_shape_and_slice.proofs.ListEdits.{got_mapped}
use Rattle.nd_array_core.specs.ArrayMeaning.{meaning_of}
use Rattle.nd_array_core.specs.growth.AppendEach.{meanings_of}
use Rattle.nd_stacking.proofs.ConcatenationShapeChecks.{lengths_more, lengths_within}
use Rattle.nd_stacking.proofs.joined_shapes.lengths_together.Goals as goal

pub loop-nth-preserved : goal.loop-nth-preserved
loop-nth-preserved g c =
    let x = c.index-arrays-nth.result in
    let at = got_mapped (λ a. meaning_of a) c.args.arrays.now c.loop-nth.nth x c.loop-nth-test.true c.index-arrays-nth.is in
    let more = lengths_more c.args.axis (meanings_of c.args.arrays.now) c.loop-nth.nth (meaning_of x) at in
    let len : c.length_at.result ≡ get_or (meaning_of x).shape c.args.axis 0 = c.length_at.ensures ∙ ap (λ s. get_or s c.args.axis 0) c.shape.ensures.value in
    let sum = (c.in-Some.ensures {u = tt}).1 in
    let before = c.loop-nth.invariant in
    omega (arith, more, len, sum, before)

pub returns-in-None : goal.returns-in-None
returns-in-None g c =
    let x = c.index-arrays-nth.result in
    let at = got_mapped (λ a. meaning_of a) c.args.arrays.now c.loop-nth.nth x c.loop-nth-test.true c.index-arrays-nth.is in
    let within = lengths_within c.args.axis (meanings_of c.args.arrays.now) c.loop-nth.nth (meaning_of x) at in
    let len : c.length_at.result ≡ get_or (meaning_of x).shape c.args.axis 0 = c.length_at.ensures ∙ ap (λ s. get_or s c.args.axis 0) c.shape.ensures.value in
    let past = c.in-None.ensures {u = tt} in
    let before = c.loop-nth.invariant in
    omega (arith, within, len, past, before)

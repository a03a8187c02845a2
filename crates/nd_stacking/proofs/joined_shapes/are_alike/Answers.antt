use Rattle.std.proofs.Common.{ap, sym, ◌∙◌}
use Rattle.nd_shape_and_slice.proofs.ListEdits.{got_mapped}
use Rattle.nd_array_core.specs.ArrayMeaning.{Meaning, meaning_of}
use Rattle.nd_array_core.specs.growth.AppendEach.{meanings_of}
use Rattle.nd_stacking.specs.ConcatenateAndStack.{is_alike_but}
use Rattle.nd_stacking.proofs.ConcatenationShapeChecks.{all_fails, all_more}
use Rattle.nd_stacking.proofs.joined_shapes.are_alike.Goals as goal

pub loop-nth-preserved : goal.loop-nth-preserved
loop-nth-preserved g c =
    let x = c.index-arrays-nth.result in
    let first = g.D.Dimension.lengths c.args.first.now in
    all_more (λ (m : Meaning g.row.A.Denot). is_alike_but c.args.axis first m.shape) (meanings_of c.args.arrays.now) c.loop-nth.nth (meaning_of x)
    (got_mapped (λ a. meaning_of a) c.args.arrays.now c.loop-nth.nth x c.loop-nth-test.true c.index-arrays-nth.is) c.loop-nth.invariant
    (ap (is_alike_but c.args.axis first) (sym c.raw_dim.ensures) ∙ (sym c.is_alike.ensures ∙ c.if-not-is_alike.false))

pub returns-then-not-is_alike : goal.returns-then-not-is_alike
returns-then-not-is_alike g c =
    let x = c.index-arrays-nth.result in
    let first = g.D.Dimension.lengths c.args.first.now in
    sym
    (all_fails (λ (m : Meaning g.row.A.Denot). is_alike_but c.args.axis first m.shape) (meanings_of c.args.arrays.now) c.loop-nth.nth (meaning_of x)
    (got_mapped (λ a. meaning_of a) c.args.arrays.now c.loop-nth.nth x c.loop-nth-test.true c.index-arrays-nth.is)
    (ap (is_alike_but c.args.axis first) (sym c.raw_dim.ensures) ∙ (sym c.is_alike.ensures ∙ c.if-not-is_alike.true)))

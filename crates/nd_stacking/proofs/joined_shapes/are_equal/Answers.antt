use Rattle.std.proofs.Common.{◌≡◌, false, true, ap, sym, ◌∙◌}
use Rattle.std.specs.Prelude.{nat_eq}
use Rattle.std.specs.Cmp.Lexicographic.{pointwise}
use Rattle.std.proofs.lemmas.Bool.{not-false, not-true}
use Rattle.nd_shape_and_slice.proofs.ListEdits.{got_mapped}
use Rattle.nd_array_core.specs.ArrayMeaning.{Meaning, meaning_of}
use Rattle.nd_array_core.specs.growth.AppendEach.{meanings_of}
use Rattle.nd_stacking.proofs.ConcatenationShapeChecks.{all_fails, all_more}
use Rattle.nd_stacking.proofs.joined_shapes.are_equal.Goals as goal

pub loop-nth-preserved : goal.loop-nth-preserved
loop-nth-preserved g c =
    let x = c.index-arrays-nth.result in
    let first = g.D.Dimension.lengths c.args.first.now in
    let same : pointwise nat_eq c.shape.result.now c.slice.result.now ≡ true = not-false (pointwise nat_eq c.shape.result.now c.slice.result.now) (sym c.ne.ensures ∙ c.if-ne.false) in
    all_more (λ (m : Meaning g.row.A.Denot). pointwise nat_eq m.shape first) (meanings_of c.args.arrays.now) c.loop-nth.nth (meaning_of x)
    (got_mapped (λ a. meaning_of a) c.args.arrays.now c.loop-nth.nth x c.loop-nth-test.true c.index-arrays-nth.is) c.loop-nth.invariant
    (ap (pointwise nat_eq (meaning_of x).shape) (sym c.slice.ensures.lengths) ∙ (ap (λ s. pointwise nat_eq s c.slice.result.now) (sym c.shape.ensures.value) ∙ same))

pub returns-then-ne : goal.returns-then-ne
returns-then-ne g c =
    let x = c.index-arrays-nth.result in
    let first = g.D.Dimension.lengths c.args.first.now in
    let other : pointwise nat_eq c.shape.result.now c.slice.result.now ≡ false = not-true (pointwise nat_eq c.shape.result.now c.slice.result.now) (sym c.ne.ensures ∙ c.if-ne.true) in
    sym
    (all_fails (λ (m : Meaning g.row.A.Denot). pointwise nat_eq m.shape first) (meanings_of c.args.arrays.now) c.loop-nth.nth (meaning_of x)
    (got_mapped (λ a. meaning_of a) c.args.arrays.now c.loop-nth.nth x c.loop-nth-test.true c.index-arrays-nth.is)
    (ap (pointwise nat_eq (meaning_of x).shape) (sym c.slice.ensures.lengths) ∙ (ap (λ s. pointwise nat_eq s c.slice.result.now) (sym c.shape.ensures.value) ∙ other)))

use Rattle.std.proofs.Common.{◌≡◌, ◌∙◌, sym, ap, None}
use Rattle.nd_shape_and_slice.specs.LayoutIndexMaps.{lower_shape, upper_shape, upper_index}
use Rattle.nd_array_core.specs.ArrayMeaning.{meaning_of}
use Rattle.nd_read.specs.ScriptCalls.{acting}
use Rattle.nd_steps.specs.WritesThroughViewsAndSplits.{point_refusal, split_refusal, lower_meaning, upper_meaning}
use Rattle.nd_steps.specs.WriteResults.{acted_elements_unless}
use Rattle.nd_steps.proofs.WritePaths.{is_none}
use Rattle.nd_steps.proofs.StepEquations.{unchanged}
use Rattle.nd_steps.proofs.ArrayFromSplitParts.{part_at, parts_decide, point_decides, split_is}
use Rattle.nd_steps.proofs.fill_assign_set_and_swap.act_on_parts.Goals as goal

pub returns-then-is_some : goal.returns-then-is_some
returns-then-is_some g c =
    let first = acting g.T.HoldsArray.held c.args.first.now in
    let second = acting g.T.HoldsArray.held c.args.second.now in
    let m = meaning_of c.args.array.now in
    let r = c.point_refusal-refused.result in
    let some = sym c.is_some.ensures ∙ c.if-is_some.true in
    (point_decides c.args.axis c.args.index first second r m.shape some (c.point_refusal-refused.ensures ∙ ap (point_refusal c.args.axis c.args.index) c.shape.ensures.value), unchanged r _ m some)

pub returns : goal.returns
returns g c =
    let axis = c.args.axis in
    let index = c.args.index in
    let first = acting g.T.HoldsArray.held c.args.first.now in
    let second = acting g.T.HoldsArray.held c.args.second.now in
    let old = meaning_of c.args.array.now in
    let new = meaning_of c.with_halves_mut.new.array in
    let shape = c.with_halves_mut.ensures.frame.0 in
    let r = c.in_ok-refused.refused in
    let d = c.in_ok-refused.ensures.done in
    let none : point_refusal axis index old.shape ≡ None = ap (point_refusal axis index) (sym c.shape.ensures.value) ∙ (sym c.point_refusal-refused.ensures ∙ is_none c.point_refusal-refused.result (sym c.is_some.ensures ∙ c.if-is_some.false)) in
    let refused : r ≡ split_refusal axis index first second old.shape = d.0 ∙ sym (parts_decide axis index first second old.shape none) in (
      refused,
      split_is axis index first second r old new c.nothing_outside.ensures c.nothing_outside-2.ensures shape
          (λ i h. part_at (lower_shape new.shape axis index) (lower_shape old.shape axis index) i (new.at i) (acted_elements_unless r first (lower_meaning axis index old) i) (ap (λ ns. lower_shape ns axis index) shape) h (d.1 i))
          (λ i h. part_at (upper_shape new.shape axis index) (upper_shape old.shape axis index) i (new.at (upper_index axis index i)) (acted_elements_unless r second (upper_meaning axis index old) i) (ap (λ ns. upper_shape ns axis index) shape) h (d.2 i)),
    )

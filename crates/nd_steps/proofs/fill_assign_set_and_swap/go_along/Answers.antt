use Rattle.std.proofs.Common.{◌≡◌, ◌∙◌, sym, ap, map, None}
use Rattle.nd_array_core.specs.ArrayMeaning.{shape_of, placed_array}
use Rattle.nd_read.specs.ScriptCalls.{asked_step}
use Rattle.nd_steps.specs.StepTestsAndShapes.{keep_tests, keep_refusal}
use Rattle.nd_steps.proofs.StepChecks.{keep_allows}
use Rattle.nd_paths.specs.CallbacksOnViewsAndSplits.{places_in}
use Rattle.nd_steps.proofs.WritePaths.{is_none, led_more, led_stops_at, led_all, lies_along}
use Rattle.nd_steps.proofs.fill_assign_set_and_swap.go_along.Goals as goal

pub returns-then-is_some-clause-refused : goal.returns-then-is_some-clause-refused
returns-then-is_some-clause-refused g c =
    led_stops_at keep_tests c.keep_refusal-refused.result c.args.path.now c.loop-step.step-index c.step-item.result (places_in (placed_array c.args.array)) (places_in (placed_array c.loop-step.array))
    (sym c.is_some.ensures ∙ c.if-is_some.true) (c.keep_refusal-refused.ensures ∙ ap (keep_refusal (asked_step c.step-item.result)) c.shape.ensures.value) c.loop-step-test.true (sym c.step-item.is) c.loop-step.invariant.led

pub loop-step-preserved-then-changes_axes : goal.loop-step-preserved-then-changes_axes
loop-step-preserved-then-changes_axes g c =
    let step = asked_step c.step-item.result in
    let none = is_none c.keep_refusal-refused.result (sym c.is_some.ensures ∙ c.if-is_some.false) in
    let allowed : keep_refusal step (shape_of c.loop-step.array) ≡ None = ap (keep_refusal step) (sym c.shape.ensures.value) ∙ (sym c.keep_refusal-refused.ensures ∙ none) in
    record {
      storage = c.change_axes.ensures.storage ∙ c.loop-step.invariant.storage;
      led = led_more keep_tests c.args.path.now c.loop-step.step-index c.step-item.result (places_in (placed_array c.args.array)) (places_in (placed_array c.loop-step.array)) (places_in (placed_array c.change_axes.new.array))
          c.loop-step-test.true (sym c.step-item.is) allowed c.change_axes.ensures.shape c.change_axes.ensures.source c.loop-step.invariant.led;
    }

pub loop-step-preserved : goal.loop-step-preserved
loop-step-preserved g c =
    let step = asked_step c.step-item.result in
    let none = is_none c.keep_refusal-refused.result (sym c.is_some.ensures ∙ c.if-is_some.false) in
    let allowed : keep_refusal step (shape_of c.loop-step.array) ≡ None = ap (keep_refusal step) (sym c.shape.ensures.value) ∙ (sym c.keep_refusal-refused.ensures ∙ none) in
    record {
      storage = c.stepped-array.ensures.storage ∙ c.loop-step.invariant.storage;
      led = led_more keep_tests c.args.path.now c.loop-step.step-index c.step-item.result (places_in (placed_array c.args.array)) (places_in (placed_array c.loop-step.array)) (places_in (placed_array c.stepped-array.result))
          c.loop-step-test.true (sym c.step-item.is) allowed c.stepped-array.ensures.shape c.stepped-array.ensures.source c.loop-step.invariant.led;
    }

pub returns-clause-refused : goal.returns-clause-refused
returns-clause-refused g c = sym (led_all keep_tests keep_allows c.paths_lead_along.ensures c.args.path.now c.loop-step.step-index (places_in (placed_array c.args.array)) (places_in (placed_array c.loop-step.array)) c.loop-step-test.false c.loop-step.invariant.led).0

pub returns-clause-end : goal.returns-clause-end
returns-clause-end g c = λ _.
    let led = (led_all keep_tests keep_allows c.paths_lead_along.ensures c.args.path.now c.loop-step.step-index (places_in (placed_array c.args.array)) (places_in (placed_array c.loop-step.array)) c.loop-step-test.false c.loop-step.invariant.led).1 in
    (led.0, lies_along (map asked_step c.args.path.now) (places_in (placed_array c.args.array)) (places_in (placed_array c.loop-step.array)) led c.elements_have_places.ensures.places)

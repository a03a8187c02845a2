use Rattle.nd_array_core.proofs.NamesFromOtherCrates.{◌≡◌, ◌∙◌, ◌||◌, eqb, get_or, length, refl, sym, true, true≢false, length-set, stretches, some_length}
use Rattle.nd_array_core.specs.ConcatenationAndSplit.{appended_shape}
use Rattle.nd_array_core.proofs.growth_lemmas.BroadcastAppends.{fits_as_it_is, fits_as_one, not_stretched, stretched_all, stretched_next, stretches_long}
use Rattle.nd_array_core.proofs.growth.joined_shape.fits_after.Goals as goal
use Rattle.nd_array_core.proofs.growth.joined_shape.fits_after.Goals.{else-added-nth-via-then-added-nth+else-added-nth-ne1, else-added-nth-via-else-added-nth}

pub returns-then-added-shape : goal.returns-then-added-shape
returns-then-added-shape c =
    let ns = c.args.shape.now in
    let ms = c.args.added.now in (
      (λ is. absurd (true≢false (sym is))),
      (λ fits. absurd (c.if-added-shape.true (stretches_long ms (appended_shape ns ms c.args.axis) fits.1 ∙ length-set ns c.args.axis (get_or ms c.args.axis 0)))),
    )

pub loop-nth-preserved : goal.loop-nth-preserved
loop-nth-preserved c =
    let ns = c.args.shape.now in
    let ms = c.args.added.now in
    let to = appended_shape ns ms c.args.axis in
    let nth = c.loop-nth.nth in
    let long = c.if-added-shape.false ∙ sym (length-set ns c.args.axis (get_or ms c.args.axis 0)) in
    let fits : (eqb (get_or ms nth 0) (get_or to nth 0) || eqb (get_or ms nth 0) 1) ≡ true = elim c.else-added-nth.branch [
      | else-added-nth-via-then-added-nth+else-added-nth-ne1 w ↦ fits_as_one (get_or ms nth 0) (get_or to nth 0) w.if-added-nth-ne1.false
      | else-added-nth-via-else-added-nth w ↦ fits_as_it_is (get_or ms nth 0) (get_or to nth 0) (w.if-added-nth.false ∙ c.length_after.ensures)
    ] in
    stretched_next ms to nth (stretches ms to) c.loop-nth-test.true long fits c.loop-nth.invariant

pub returns-then-added-nth-ne1 : goal.returns-then-added-nth-ne1
returns-then-added-nth-ne1 c =
    let ns = c.args.shape.now in
    let ms = c.args.added.now in
    let to = appended_shape ns ms c.args.axis in
    let long = c.if-added-shape.false ∙ sym (length-set ns c.args.axis (get_or ms c.args.axis 0)) in (
      (λ is. absurd (true≢false (sym is))),
      (λ fits. absurd (not_stretched ms to c.loop-nth.nth c.length_after.result c.loop-nth-test.true long c.length_after.ensures c.if-added-nth.true c.if-added-nth-ne1.true (c.loop-nth.invariant ∙ fits.1))),
    )

pub returns : goal.returns
returns c =
    let ns = c.args.shape.now in
    let ms = c.args.added.now in
    let to = appended_shape ns ms c.args.axis in
    let long = c.if-added-shape.false ∙ sym (length-set ns c.args.axis (get_or ms c.args.axis 0)) in (
      (λ is. (some_length (length ns) (sym c.is_empty.ensures ∙ c.if-is_empty.false), stretched_all ms to c.loop-nth.nth c.loop-nth-test.false long c.loop-nth.invariant)),
      (λ fits. refl),
    )

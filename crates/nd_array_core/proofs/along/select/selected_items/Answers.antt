use Rattle.nd_array_core.proofs.NamesFromOtherCrates.{◌∙◌, ◌*◌, ap, sym, arith, length, size_of, collapsed_shape}
use Rattle.nd_array_core.specs.ArrayMeaning.{shape_of}
use Rattle.nd_array_core.proofs.along_lemmas.SelectedCoordinates.{rows_size}
use Rattle.nd_array_core.proofs.along.select.selected_items.Goals as goal

pub returns-clause-count : goal.returns-clause-count
returns-clause-count g c =
    c.loop-nth.items.ok.0
    ∙ c.loop-nth.invariant.0.0
    ∙ ap (λ n. n * size_of (collapsed_shape (shape_of c.args.array.now) 0)) (let below = c.loop-nth-test.false in let end = c.loop-nth.auto.nth-end in omega (arith, below, end))
    ∙ sym (rows_size (shape_of c.args.array.now) (length c.args.indices.now) c.requires.axes)

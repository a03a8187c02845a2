use Rattle.std.proofs.Common.{◌≡◌, true, sym, ◌∙◌, int_eq}
use Rattle.std.specs.Cmp.Lexicographic.{pointwise, pointwise_decides}
use Rattle.std.proofs.lemmas.Bool.{not-false}
use Rattle.std.proofs.lemmas.Bool.Decides.{Decides-int_eq}
use Rattle.nd_array_core.specs.ArrayMeaning.{memory_layout_of}
use Rattle.nd_array_core.proofs.elements.paired_runs.are_runs_alike.Goals as goal

pub returns-clause-strides : goal.returns-clause-strides
unfolding memory_layout_of
returns-clause-strides g c told =
    let ours = c.slice-strides.result.now in
    let theirs = c.slice.result.now in
    let same : pointwise int_eq theirs ours ≡ true = not-false (pointwise int_eq theirs ours) (sym c.ne.ensures ∙ c.if-ne.false) in
    sym c.slice.ensures ∙ (pointwise_decides Decides-int_eq theirs ours).0 same ∙ c.slice-strides.ensures

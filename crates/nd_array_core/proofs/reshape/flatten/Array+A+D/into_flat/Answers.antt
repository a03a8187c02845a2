use Rattle.nd_array_core.proofs.NamesFromOtherCrates.{[], ◌∷◌, ap, ◌∙◌, subst, RowMajor}
use Rattle.nd_array_core.specs.ArrayMeaning.{shape_of, layout_strides}
use Rattle.nd_array_core.specs.reshape.ReshapeByRank.{IsShapeOf}
use Rattle.nd_array_core.specs.reshape.EitherArray.{KeptOrCopied, IsReshapeRefused}
use Rattle.nd_array_core.proofs.reshape_lemmas.StridesForReshape.{only_memory}
use Rattle.nd_array_core.proofs.reshape.flatten.Array+A+D.into_flat.Goals as goal

pub returns-in-Ok-clause-kind : goal.returns-in-Ok-clause-kind
returns-in-Ok-clause-kind g c =
    let line = c.into_dimension-dim.ensures ∙ ap (λ n. n ∷ []) c.line_of.ensures.value in
    subst (λ ms. KeptOrCopied c.args.self RowMajor ms c.in-Ok.flat) line c.in-Ok.ensures.kind

pub returns-in-Err-clause-refused : goal.returns-in-Err-clause-refused
returns-in-Err-clause-refused g c =
    let line = c.into_dimension-dim.ensures ∙ ap (λ n. n ∷ []) c.line_of.ensures.value in
    let fits = subst (λ n. IsShapeOf (shape_of c.args.self) (n ∷ [])) c.line_of.ensures.value c.line_of.ensures.shape in
    only_memory c.in-Err.field-0 fits (subst (λ ms. IsReshapeRefused RowMajor (shape_of c.args.self) (layout_strides c.args.self) ms c.in-Err.field-0) line c.in-Err.ensures.refused)

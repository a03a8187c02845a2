use Rattle.std.proofs.Common.{◌∙◌, ◌∷◌, []}
use Rattle.std.proofs.lemmas.Result.{IfOk-weaker}
use Rattle.nd_numeric.proofs.outer_product_and_trace.outer.Goals as goal

pub returns-clause-shape : goal.returns-clause-shape
returns-clause-shape g c = IfOk-weaker c.combined.result _ _ (λ a are. are.0 ∙ c.columns_of.ensures.shape) c.combined.ensures.combined

pub returns-clause-products : goal.returns-clause-products
returns-clause-products g c =
    IfOk-weaker c.combined.result _ _ (λ a are row column below within. are.1 (row ∷ column ∷ []) ∙ c.columns_of.ensures.cells g.A.Arithmetic.times g.A.Zero.zero row column below within) c.combined.ensures.combined

use Rattle.std.proofs.Common.{[], ◌∷◌, ◌+◌, ◌*◌, ◌∙◌}
use Rattle.uses_nd_array_core.proofs.flatten_and_to_shape.pixels_seen.Goals as goal

pub returns-clause-elements : goal.returns-clause-elements
returns-clause-elements g c rows columns colours row column colour same there =
    c.pixels_by_rank.ensures.elements rows columns colours same ((row * columns + column) ∷ colour ∷ [])
    ∙ c.first_axes_joined.ensures.elements rows columns (colours ∷ []) same row column (colour ∷ []) there

use Rattle.nd_array_core.specs.ArrayMeaning.{meaning_of}
use Rattle.nd_array_core.proofs.law_lemmas.ReshapeLaws.{joined_shape_of, joined_short_of, joined_element_of}
use Rattle.nd_array_core.proofs.laws.first_axes_joined.Goals as goal

pub returns : goal.returns
unfolding meaning_of
returns g c =
    let layout = c.args.array.now.layout in
    record {
      shape = λ n m ms same. joined_shape_of (g.D.Dimension.lengths layout.dim) layout.checked n m ms same;
      short = λ n m ms same. joined_short_of (g.D.Dimension.lengths layout.dim) layout.checked n m ms same;
      elements = λ n m ms same. let array = c.args.array.now in
          joined_element_of (g.D.Dimension.lengths array.layout.dim) array.layout.checked n m ms same (meaning_of array).at;
    }

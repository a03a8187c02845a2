use Rattle.nd_array_core.proofs.NamesFromOtherCrates.{◌∙◌, ap, [], ◌∷◌, in_box, in_two_axes}
use Rattle.nd_array_core.specs.ArrayMeaning.{meaning_of}
use Rattle.nd_array_core.proofs.law_lemmas.ReshapeLaws.{joined_shape_of, joined_short_of, joined_element_of}
use Rattle.nd_array_core.proofs.laws.rows_joined.Goals as goal

pub returns : goal.returns
unfolding meaning_of
returns g c =
    let layout = c.args.array.now.layout in
    record {
      shape = λ n m same. joined_shape_of (g.D.Dimension.lengths layout.dim) layout.checked n m [] same;
      short = λ n m same. joined_short_of (g.D.Dimension.lengths layout.dim) layout.checked n m [] same;
      elements = λ n m same i j low below. let array = c.args.array.now in
          joined_element_of (g.D.Dimension.lengths array.layout.dim) array.layout.checked n m [] same (meaning_of array).at i j [] (ap (λ ks. in_box ks (i ∷ j ∷ [])) same ∙ in_two_axes n m i j low below);
    }

use Rattle.nd_array_core.proofs.law_lemmas.ViewsRepeatNoElement.{slices_once, lists_once, collapsed_lists_once, each_slices_once, permutations_once, reversals_once, exchanges_once, inversions_once, collapses_once, coordinates_once, lower_parts_once, upper_parts_once, insertions_once, squeezes_once, merges_once, diagonals_once, reshapes_once, paths_once}
use Rattle.nd_array_core.proofs.laws.maps_name_once.Goals as goal

pub returns : goal.returns
returns c =
    record {
      sliced = slices_once;
      listed = lists_once;
      collapsed_list = collapsed_lists_once;
      each_sliced = each_slices_once;
      permuted = permutations_once;
      reversed = reversals_once;
      swapped = exchanges_once;
      inverted = inversions_once;
      collapsed = collapses_once;
      indexed = coordinates_once;
      lower = lower_parts_once;
      upper = upper_parts_once;
      inserted = insertions_once;
      squeezed = squeezes_once;
      merged = merges_once;
      diagonal = diagonals_once;
      reshaped = reshapes_once;
      paths = paths_once;
    }

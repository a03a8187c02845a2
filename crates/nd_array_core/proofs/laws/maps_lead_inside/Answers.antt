use Rattle.nd_array_core.proofs.law_lemmas.LayoutLaws.{sliced_inside, listed_inside, collapsed_list_inside, permuted_inside, reversed_inside, swapped_inside, inverted_inside, collapsed_inside, lower_inside, upper_inside, indexed_inside, inserted_inside, squeezed_inside, diagonal_inside, broadcast_inside}
use Rattle.nd_array_core.proofs.laws.maps_lead_inside.Goals as goal

pub returns : goal.returns
returns c =
    record {
      sliced = sliced_inside;
      listed = listed_inside;
      collapsed_list = collapsed_list_inside;
      permuted = permuted_inside;
      reversed = reversed_inside;
      swapped = swapped_inside;
      inverted = inverted_inside;
      collapsed = collapsed_inside;
      lower = lower_inside;
      upper = upper_inside;
      indexed = indexed_inside;
      inserted = inserted_inside;
      squeezed = squeezed_inside;
      diagonal = diagonal_inside;
      broadcast = broadcast_inside;
    }

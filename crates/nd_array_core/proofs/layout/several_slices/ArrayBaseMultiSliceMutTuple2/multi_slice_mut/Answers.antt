use Rattle.nd_array_core.proofs.NamesFromOtherCrates.{◌≡◌, ℕ, ap, sym, ◌∙◌, region_stored, placement_of, held_by, kept_at}
use Rattle.nd_array_core.specs.ArrayMeaning.{meaning_of, memory_layout_of}
use Rattle.nd_array_core.specs.layout.ArrayAfterMutableView.{array_with_part}
use Rattle.nd_array_core.specs.layout.SeveralMutableViews.{named_of, places_of, pass_either}
use Rattle.nd_array_core.proofs.layout_lemmas.SeparateSliceLists.{apart, two_held, listed_part, view_listed}
use Rattle.nd_array_core.proofs.layout_lemmas.MaskedStorage.{masked_taken, two_masked, two_pass}
use Rattle.nd_array_core.proofs.lending.KeptOutside.{two_keep}
use Rattle.nd_array_core.proofs.lending.RefilledPart.{is_refilled}
use Rattle.nd_array_core.proofs.layout.several_slices.ArrayBaseMultiSliceMutTuple2.multi_slice_mut.Goals as goal

pub two_parts-requires-clause-held : goal.two_parts-requires-clause-held
unfolding meaning_of
two_parts-requires-clause-held g c =
    let array = c.args.self.now in let alone = g.met.S.DataMut.alone in let m = g.S.Data.stored array.storage in
    let one = placement_of c.sliced_by-one.result in let two = placement_of c.sliced_by-two.result in
    two_masked m (held_by c.of_region.result) one two (λ p. ap (λ r. region_stored r p) c.of_region.ensures ∙ c.lent_named-region.ensures.elements p) (two_held array alone c.sliced_by-one.ensures c.sliced_by-two.ensures)

pub two_parts-requires-clause-apart : goal.two_parts-requires-clause-apart
unfolding meaning_of
two_parts-requires-clause-apart g c = apart c.args.self.now g.met.S.DataMut.alone c.sliced_by-one.ensures c.sliced_by-two.ensures c.requires.2

pub returns : goal.returns
unfolding meaning_of memory_layout_of array_with_part
returns g c =
    let array = c.args.self.now in let alone = g.met.S.DataMut.alone in let m = g.S.Data.stored array.storage in
    let one = placement_of c.sliced_by-one.result in let two = placement_of c.sliced_by-two.result in
    let rest = held_by c.of_region.result in let test = pass_either (named_of one) (named_of two) in let all = two_pass one two in let parts = c.two_parts in
    let is : (p : ℕ) → rest p ≡ kept_at test m p = λ p. ap (λ r. region_stored r p) c.of_region.ensures ∙ c.lent_named-region.ensures.elements p in
    let took_one = masked_taken m rest test is one all.0 parts.result.0 parts.ensures.first in
    let took_two = masked_taken m rest test is two all.1 parts.result.1 parts.ensures.second in
    let same_places = sym (λ i. pass_either (named_of (took_one.1 i)) (named_of (took_two.1 i))) in
    let places = pass_either (places_of parts.result.0) (places_of parts.result.1) in (
      (sym parts.ensures.tied, λ w. ap (λ f. array_with_part g.S.Data.refilled g.S.Data.items array f (g.S.Data.items w.storage)) same_places),
      record {
        writes_back = tt;
        first = listed_part array alone parts.result.0 c.sliced_by-one.ensures took_one;
        second = listed_part array alone parts.result.1 c.sliced_by-two.ensures took_two;
        apart = parts.ensures.apart;
        refilled = λ ws. is_refilled g.S.Data.refilled g.S.Data.items array places g.S.DataMut.frame ws g.met.S.DataMut.refilled_there g.met.S.DataMut.refilled_frame;
        kept = λ ws. two_keep array alone (g.S.Data.stored (array_with_part g.S.Data.refilled g.S.Data.items array places ws).storage) (view_listed array alone parts.result.0 c.sliced_by-one.ensures took_one) (view_listed array alone parts.result.1 c.sliced_by-two.ensures took_two) (λ p none. g.met.S.DataMut.refilled_elsewhere array.storage places ws p none);
      },
    )

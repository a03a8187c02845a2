-- Putting the axes in another order is a layout step.
use Rattle.nd_layout.proofs.NamesFromOtherCrates.{◌≡◌, ℕ, true, List, length, ℤ, pos, ◌+ℤ◌, ap, sym, ◌∙◌, subst, arith, in_box, HasEachAxis, permuted_list, unpermuted_list, length-in_box}
use Rattle.nd_layout.specs.StridesAfterLayoutCalls.{permuted_strides}
use Rattle.nd_layout.proofs.PermutedAxes.{displacement_of-unpermuted, in_box-unpermuted, span_of-permuted, HasCheckedSize-permuted, IsSeparated-permuted, length-permuted, length-permuted_strides}
use Rattle.nd_layout.specs.ValidLayoutsAndSteps.{IsStep}

pub permute_is_step : (offset : ℕ) (ns : List ℕ) (ss : List ℤ) (p : List ℕ) → length ss ≡ length ns → HasEachAxis p (length ns) → IsStep offset ns ss offset (permuted_list p ns) (permuted_strides p ss) (unpermuted_list p)
permute_is_step offset ns ss p many each =
    let each_stride : HasEachAxis p (length ss) = subst (HasEachAxis p) (sym many) each in
    let counted : (i : List ℕ) → in_box (permuted_list p ns) i ≡ true → length i ≡ length ns = λ i h. (length-in_box (permuted_list p ns) i h ∙ length-permuted p ns) ∙ each.0 in
    record {
      within = λ i h. in_box-unpermuted p ns i each (counted i h) ∙ h;
      same = λ i h. ap (λ z. pos offset +ℤ z) (displacement_of-unpermuted p ss i each_stride (counted i h ∙ sym many));
      as_many = length-permuted_strides p ss ∙ sym (length-permuted p ns);
      spread = let same = span_of-permuted p ns ss each many in omega (arith, same);
      checked = HasCheckedSize-permuted p ns each;
      separated = IsSeparated-permuted p ns ss each many;
    }

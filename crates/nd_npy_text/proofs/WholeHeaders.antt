-- A head that is read is whole.
use Rattle.std.proofs.Common.{◌≡◌, ◌∙◌, ◌≤◌, Bool, true, false, cond, length, refl, sym, ap, subst}
use Rattle.std.specs.Prelude.{Result, Ok, Err, IsTrue}
use Rattle.nd_npy_text.specs.declared.errors.HeaderError.{HeaderError}
use Rattle.nd_npy_text.specs.declared.errors.HeaderError.TheVariants.{TooLarge}
use Rattle.nd_npy_text.specs.ItemTypes.{kind_size, has_its_order}
use Rattle.nd_npy_text.specs.HeaderDescription.{Description, IsWholeHeader, fits_memory}
use Rattle.nd_npy_text.specs.HeaderReading.{unless_too_large}

pub whole_read : (d e : Description) → unless_too_large d ≡ Ok e → IsTrue (has_its_order d.item_type) → length d.array_shape ≤ 32 → IsWholeHeader e
whole_read d e read order axes = by_test (fits_memory (kind_size d.item_type.kind) d.array_shape) refl
  where
    by_test : (t : Bool) → fits_memory (kind_size d.item_type.kind) d.array_shape ≡ t → IsWholeHeader e
    by_test true fits =
        let both : ◌≡◌ {A = Result Description HeaderError} (Ok d) (Ok e) = sym (ap (λ t. cond t (Ok d) (Err TooLarge)) fits) ∙ read in
        let same : d ≡ e = cc in
        subst IsWholeHeader same (record { order_allowed = order; axes_allowed = axes; size_allowed = fits })
    by_test false fits = absurd (let no : ◌≡◌ {A = Result Description HeaderError} (Err TooLarge) (Ok e) = sym (ap (λ t. cond t (Ok d) (Err TooLarge)) fits) ∙ read in cc)

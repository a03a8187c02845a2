-- What fits after a shape along an axis: how many axes it has, and how many elements come after.
use Rattle.nd_array_core.proofs.NamesFromOtherCrates.{◌≡◌, ◌∙◌, ℕ, ◌*◌, ◌≤◌, List, length, get_or, ap, arith, ⊎_elim, remove, cases_lt, get_or_past, length-set, size_of}
use Rattle.nd_array_core.specs.ConcatenationAndSplit.{appended_shape}
use Rattle.nd_array_core.specs.growth.Append.{FitsAfter, elements_after}
use Rattle.nd_array_core.proofs.growth_lemmas.BroadcastAppends.{stretches_long, none_after}

pub as_many_axes : (ns ms : List ℕ) (axis : ℕ) → FitsAfter ns ms axis → length ms ≡ length ns
as_many_axes ns ms axis fits = stretches_long ms (appended_shape ns ms axis) fits.1 ∙ length-set ns axis (get_or ms axis 0)

-- of what has no element none come after
pub none_of_none : (ns ms : List ℕ) (axis : ℕ) → FitsAfter ns ms axis → size_of ms ≡ 0 → elements_after ns ms axis ≡ 0
none_of_none ns ms axis fits none = ⊎_elim (λ on. none_after ns ms axis on fits none) past (cases_lt axis (length ns))
  where
    past : length ns ≤ axis → elements_after ns ms axis ≡ 0
    past off =
        let long = as_many_axes ns ms axis fits in
        ap (λ n. n * size_of (remove ns axis)) (get_or_past ms axis 0 (omega (arith, off, long))) ∙ omega arith

-- A view of rows: all of them where they have a checked size, and else none.
use Rattle.nd_array_core.proofs.NamesFromOtherCrates.{◌≡◌, ◌⊎◌, inl, inr, ℕ, ◌*◌, ◌<◌, ◌≤◌, ◌^◌, List, [], ◌∷◌, length, take, ap, sym, subst, ◌∙◌, arith, cases_lt, flat_map, IsSome, slice_get, take-length, HasCheckedSize, nonzero_product, there_is_some, Region, region_stored, IsWhole, whole_holds}
use Rattle.nd_array_core.specs.base.SliceAfterView.{row_count}

abbrev shape : List ℕ → ℕ → List ℕ
shape ns n = n ∷ ns

-- a shape has a checked size or it has none
pub checked_or_not : (ns : List ℕ) → HasCheckedSize ns ⊎ (HasCheckedSize ns → ⊥)
checked_or_not ns = first (cases_lt (nonzero_product ns) (2 ^ 63))
  where
    first : (nonzero_product ns < 2 ^ 63) ⊎ (2 ^ 63 ≤ nonzero_product ns) → HasCheckedSize ns ⊎ (HasCheckedSize ns → ⊥)
    first (inl small) = inl small
    first (inr large) = inr (λ small. omega (arith, large, small))

-- the rows that were lent are those that the view shows
pub rows_counted : (ns ms os : List ℕ) (k count : ℕ) → (HasCheckedSize ns → count ≡ k) → ((HasCheckedSize ns → ⊥) → count ≡ 0)
    → (HasCheckedSize ns → ms ≡ k ∷ os) → ((HasCheckedSize ns → ⊥) → ms ≡ 0 ∷ 0 ∷ []) → count ≡ row_count ms
rows_counted ns ms os k count all none shown empty = first (checked_or_not ns)
  where
    first : HasCheckedSize ns ⊎ (HasCheckedSize ns → ⊥) → count ≡ row_count ms
    first (inl checked) = all checked ∙ sym (ap row_count (shown checked))
    first (inr not) = none not ∙ sym (ap row_count (empty not))

module _ {A : Type 0} (rows : List (List A)) (count : ℕ) (n : ℕ) (r : Region A) (whole : IsWhole r (flat_map (λ row. row) (take count rows))) where
  -- where all rows are lent, the region holds all their elements
  pub rows_held : count ≡ length rows → (p : ℕ) → region_stored r p ≡ slice_get (flat_map (λ row. row) rows) p
  rows_held all p = whole_holds r (flat_map (λ row. row) (take count rows)) whole p
      ∙ ap (λ (k : ℕ). slice_get (flat_map (λ row. row) (take k rows)) p) all ∙ ap (λ ys. slice_get (flat_map (λ row. row) ys) p) (take-length rows)

  pub rows_have : length (flat_map (λ row. row) (take count rows)) ≡ length (take count rows) * n → count ≡ length rows → (p : ℕ) → p < length rows * n → IsSome (region_stored r p)
  rows_have long all p below =
      let whole_long : length (flat_map (λ row. row) (take count rows)) ≡ length rows * n = long ∙ ap (λ (k : ℕ). length (take k rows) * n) all ∙ ap (λ ys. length ys * n) (take-length rows) in
      subst IsSome (sym (whole_holds r (flat_map (λ row. row) (take count rows)) whole p)) (there_is_some (flat_map (λ row. row) (take count rows)) p (subst (λ (k : ℕ). p < k) (sym whole_long) below))

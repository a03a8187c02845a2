-- A part of a view that shows a whole array is that part of the array.
use Rattle.nd_array_core.proofs.NamesFromOtherCrates.{◌≡◌, ℕ, List, ℤ, ap, ◌∙◌, Option, size_of, inside}
use Rattle.nd_array_core.specs.PartsOfArrays.{Part}

-- what an array shows is told by its shape, its strides, its offset, and what lies at each index and where
pub shown_through :
    {A : Type 0} {ns ns' ms : List ℕ} {ss ss' ts : List ℤ} {offset offset' last : ℕ} {old view new : List ℕ → Option A} {place place' place'' : List ℕ → Option ℕ} (part : List ℕ → List ℤ → Part)
    → (ns' ≡ ns) × (ss' ≡ ss) × ((i : List ℕ) → view i ≡ old i) × ((i : List ℕ) → place' i ≡ place i) × (offset' ≡ offset)
    → (ms ≡ (part ns' ss').part_shape)
    × (ts ≡ (part ns' ss').part_strides)
    × ((i : List ℕ) → new i ≡ inside (part ns' ss').part_shape i (view ((part ns' ss').index_named i)))
    × ((i : List ℕ) → place'' i ≡ inside (part ns' ss').part_shape i (place' ((part ns' ss').index_named i)))
    × (size_of ns' ≡ 0 → last ≡ offset')
    → (ms ≡ (part ns ss).part_shape)
    × (ts ≡ (part ns ss).part_strides)
    × ((i : List ℕ) → new i ≡ inside (part ns ss).part_shape i (old ((part ns ss).index_named i)))
    × ((i : List ℕ) → place'' i ≡ inside (part ns ss).part_shape i (place ((part ns ss).index_named i)))
    × (size_of ns ≡ 0 → last ≡ offset)
shown_through part (shape, strides, same, placed, first) (lengths, steps, shown, lies, empty) = (
  lengths ∙ (λ k. (part (shape k) (strides k)).part_shape),
  steps ∙ (λ k. (part (shape k) (strides k)).part_strides),
  (λ i. shown i ∙ (λ k. inside (part (shape k) (strides k)).part_shape i (same ((part (shape k) (strides k)).index_named i) k))),
  (λ i. lies i ∙ (λ k. inside (part (shape k) (strides k)).part_shape i (placed ((part (shape k) (strides k)).index_named i) k))),
  (λ none. empty (ap size_of shape ∙ none) ∙ first),
)

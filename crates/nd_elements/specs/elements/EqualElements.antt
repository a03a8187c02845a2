-- The elements of two storages compared one by one.
use Rattle.std.specs.Prelude.{ℕ, Bool, Option}
use Rattle.std.specs.Cmp.Lexicographic.{pointwise}
use Rattle.nd_layout.specs.NumberedPlacesAndWalks.{ranked}
use Rattle.nd_layout.specs.declared.walk.layout_as_lanes.Places.{Places}
use Rattle.nd_elements.specs.ElementsAtNumberedPlaces.{all_elements_at}

-- Says that the elements of `a` at the places of `ours` and those of `b` at the places of `theirs`, each in row-major
-- order, are equal by `eq`.
abbrev pub equal_ranked : {S A : Type 0} → (A → A → Bool) → (S → ℕ → Option A) → S → Places → S → Places → Bool
equal_ranked eq stored a ours b theirs = pointwise eq (all_elements_at stored (ranked ours) a) (all_elements_at stored (ranked theirs) b)

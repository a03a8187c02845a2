-- Elements fed to a hasher, one after the other.
use Rattle.std.specs.Prelude.{◌≡◌, ℕ, List, Option}
use Rattle.std.specs.Hash.{HashWrites}
use Rattle.std.specs.List.{fold, flat_map}
use Rattle.nd_layout.specs.NumberedPlacesAndWalks.{Numbered, ranked}
use Rattle.nd_layout.specs.declared.walk.layout_as_lanes.Places.{Places}
use Rattle.nd_elements.specs.ElementsAtNumberedPlaces.{all_elements_at}

-- Says that the hasher `new` is `old` once the elements of `s` at the numbered places were fed to it, each by the
-- writes that `feed` tells.
abbrev pub FeedsEach : {S A H : Type 0} → (H → List ℕ → H) → (A → HashWrites) → (S → ℕ → Option A) → Numbered → S → H → H → Type 0
FeedsEach write feed stored at s old new = new ≡ fold write old (flat_map feed (all_elements_at stored at s))

-- Says that the hasher `new` is `old` once the elements of `s` at the places of the layout were fed to it, in row-major
-- order.
abbrev pub Feeds : {S A H : Type 0} → (H → List ℕ → H) → (A → HashWrites) → (S → ℕ → Option A) → Places → S → H → H → Type 0
Feeds write feed stored places s old new = FeedsEach write feed stored (ranked places) s old new

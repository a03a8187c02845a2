-- What a closure returned for the indexes of a shape, as a list.
use Rattle.std.specs.Prelude.{ℕ, List}
use Rattle.nd_elements.specs.ElementsByRank.{BuiltShape, found_by_rank}
use Rattle.nd_elements.specs.CallsInFreeOrder.{HasAnswers}

-- Says that one call was made for each index, in some order from `first` on, and that `items` lists what they returned
-- by the ranks of the indexes in the order that `built` names.
abbrev pub ListsAnswers : {P A : Type 0} → (P → List ℕ → A → P → Type 0) → BuiltShape → P → List A → Type 0
ListsAnswers answers built first items = HasAnswers answers built.0 first (found_by_rank built items)

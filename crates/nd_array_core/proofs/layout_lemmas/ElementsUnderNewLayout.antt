-- What every layout step gives of a storage: the stored elements, and the elements of the new array.
use Rattle.nd_array_core.proofs.NamesFromOtherCrates.{◌≡◌, ℕ, List, ℤ, Option, place_of, stored_at, HoldsAll, inside, IsStep, step_seen, seen_holds, seen_element}

module _ {offset : ℕ} {ns : List ℕ} {ss : List ℤ} {offset' : ℕ} {ns' : List ℕ} {ss' : List ℤ} {source : List ℕ → List ℕ} where
  pub step_holds : {A : Type 0} (stored : ℕ → Option A) → IsStep offset ns ss offset' ns' ss' source → HoldsAll stored offset ns ss → HoldsAll stored offset' ns' ss'
  step_holds stored step = seen_holds stored (step_seen step)

  -- the element at a new index is the one at the old index that it names
  pub step_element : {A : Type 0} (stored : ℕ → Option A) → IsStep offset ns ss offset' ns' ss' source → (i : List ℕ) → inside ns' i (stored_at stored (place_of offset' ss' i)) ≡ inside ns' i (inside ns (source i) (stored_at stored (place_of offset ss (source i))))
  step_element stored step = seen_element stored (step_seen step)

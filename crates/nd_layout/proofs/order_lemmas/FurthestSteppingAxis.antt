-- The axis that steps furthest, as far as a loop over the axes has come.
use Rattle.nd_layout.proofs.NamesFromOtherCrates.{ℕ, ◌<◌, ◌≤◌, ◌≡◌, List, length, get_or, ℤ, magnitude_at}

-- of the axes below n
pub record StepsFurthestBelow (ns : List ℕ) (ss : List ℤ) (n a : ℕ) : Type 0 where
  pub on : a < length ns
  pub furthest : (k : ℕ) → k < n → 1 < get_or ns k 0 → (1 < get_or ns a 0) × (magnitude_at ss k ≤ magnitude_at ss a)
  pub first : get_or ns a 0 ≤ 1 → a ≡ 0

-- A layout step from a copy of a layout is one from the layout itself.
use Rattle.nd_array_core.proofs.NamesFromOtherCrates.{◌≡◌, ℕ, List, ℤ, subst, IsStep}

module _ {offset offset' last : ℕ} {ns ns' ms : List ℕ} {ss ss' ts : List ℤ} where
  pub step_from : (source : List ℕ → List ℕ → List ℕ) → offset' ≡ offset → ns' ≡ ns → ss' ≡ ss → IsStep offset' ns' ss' last ms ts (source ns') → IsStep offset ns ss last ms ts (source ns)
  step_from source first lengths strides step = subst (λ (l : ℕ × List ℕ × List ℤ). IsStep l.0 l.1 l.2 last ms ts (source l.1)) (λ k. (first k, lengths k, strides k)) step

-- What a view shows of a view of an array is what it shows of the array.
use Rattle.nd_array_core.proofs.NamesFromOtherCrates.{Option, inside}
use mathlib.Core.Path.{◌≡◌, ap, ◌∙◌}
use Prim.Native.Nat.{ℕ}
use mathlib.Core.List.{List}

pub shown_through : {X : Type 0} (view array : List ℕ → Option X) (same : (i : List ℕ) → view i ≡ array i) (ns ms : List ℕ) (e : ns ≡ ms) (source : List ℕ → List ℕ → List ℕ) (box i : List ℕ)
    → inside box i (view (source ns i)) ≡ inside box i (array (source ms i))
shown_through view array same ns ms e source box i = ap (inside box i) (same (source ns i) ∙ ap (λ ks. array (source ks i)) e)

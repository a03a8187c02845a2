-- Whether a clone may be refused for lack of memory.
use Rattle.std.specs.Prelude.{ℕ, ◌≡◌, ◌<◌, List, Option, Some}

-- Says that of some element that `at` has a clone may be refused: `is_infallible` doesn't hold of it.
abbrev pub MayLackForClone : {A : Type 0} → (A → Type 0) → (List ℕ → Option A) → Type 0
MayLackForClone {A} is_infallible at = (i : List ℕ) × (x : A) × (at i ≡ Some x) × ¬ (is_infallible x)

-- Says that of some element that `at` has at a number below `count` a clone may be refused.
abbrev pub MayLackBelow : {A : Type 0} → (A → Type 0) → (ℕ → Option A) → ℕ → Type 0
MayLackBelow {A} is_infallible at count = (k : ℕ) × (x : A) × (k < count) × (at k ≡ Some x) × ¬ (is_infallible x)

-- Says that `x` is cloned at least once, as `count` isn't 0, and that a clone of it may be refused.
abbrev pub MayLackForClones : {A : Type 0} → (A → Type 0) → A → ℕ → Type 0
MayLackForClones is_infallible x count = (0 < count) × ¬ (is_infallible x)

-- A list of clones, each of which equals its original, is the list.
use Rattle.nd_elements.proofs.NamesFromOtherCrates.{◌≡◌, ℕ, zero, suc, ◌+◌, ◌<◌, List, [], ◌∷◌, ◌++◌, length, refl, arith, AllZip, Some, slice_get}
use Rattle.nd_elements.specs.EqualClones.{StoredClonesAreEqual}

pub clones_same : {A : Type 0} (is_clone : A → A → Type 0) (xs ys : List A) → StoredClonesAreEqual is_clone xs → AllZip is_clone xs ys → ys ≡ xs
clones_same is_clone [] [] equal each = refl
clones_same is_clone [] (y ∷ ys) equal each = absurd each
clones_same is_clone (x ∷ xs) [] equal each = absurd each
clones_same is_clone (x ∷ xs) (y ∷ ys) equal each = λ k. equal 0 x refl y each.0 k ∷ clones_same is_clone xs ys (λ p. equal (suc p)) each.1 k

-- a list of one value, with one more of it at the end
pub all_after : {A : Type 0} (x : A) (xs : List A) (n : ℕ) → length xs ≡ n → ((k : ℕ) → k < n → slice_get xs k ≡ Some x) → (k : ℕ) → k < n + 1 → slice_get (xs ++ x ∷ []) k ≡ Some x
all_after x [] zero long each zero below = refl
all_after x [] zero long each (suc k) below = absurd (omega (arith, below))
all_after x [] (suc n) long each k below = absurd (omega (arith, long))
all_after x (y ∷ xs) zero long each k below = absurd (omega (arith, long))
all_after x (y ∷ xs) (suc n) long each zero below = each zero (omega arith)
all_after x (y ∷ xs) (suc n) long each (suc k) below = all_after x xs n (omega (arith, long)) (λ j under. each (suc j) (omega (arith, under))) k (omega (arith, below))

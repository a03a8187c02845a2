-- What a new array shows that owns elements in an order, each of them with one property.
use Rattle.nd_array_core.proofs.NamesFromOtherCrates.{◌≡◌, ◌∙◌, ℕ, ◌<◌, Bool, true, false, List, [], ◌∷◌, length, get_or, replicate, ap, refl, arith, get_or-replicate, length-replicate, slice_get-get_or, All, Option, Some, None, if◌then◌else◌, slice_get, in_box, size_of, HasCheckedSize, rank_in, ordered_is_ranked, BuiltShape, found_by_rank, inside}

got : {A : Type 0} (is_such : A → Type 0) (xs : List A) (k : ℕ) → k < length xs → All is_such xs → (x : A) × (slice_get xs k ≡ Some x) × is_such x
got is_such [] k below all = absurd (omega (arith, below))
got is_such (x ∷ xs) k below all = (get_or (x ∷ xs) k x, slice_get-get_or (x ∷ xs) k x below, all k x below)

-- at each index an element with the property
pub shown_such : {A : Type 0} (built : BuiltShape) (lengths : List ℕ) (items given : List A) (at : List ℕ → Option A) (is_such : A → Type 0) → built.0 ≡ lengths → HasCheckedSize lengths → length items ≡ size_of built.0
    → ((i : List ℕ) → at i ≡ found_by_rank built items i) → items ≡ given → All is_such given → (i : List ℕ) → in_box lengths i ≡ true → (x : A) × (at i ≡ Some x) × is_such x
shown_such built lengths items given at is_such same checked many shows are all i h =
    let inbox : in_box built.0 i ≡ true = ap (λ ns. in_box ns i) same ∙ h in
    let below = (ordered_is_ranked built.1 built.0 (rw same checked)).below i inbox in
    let found = got is_such items (rank_in built.1 built.0 i) (omega (arith, below, many)) (rw are all) in
    (found.0, shows i ∙ (ap (λ b. if b then slice_get items (rank_in built.1 built.0 i) else None) inbox ∙ found.1), found.2)

-- at each index the one value that has the property
pub shown_alone : {A : Type 0} (built : BuiltShape) (lengths : List ℕ) (items given : List A) (at : List ℕ → Option A) (is_such : A → Type 0) → built.0 ≡ lengths → HasCheckedSize lengths → length items ≡ size_of built.0
    → ((i : List ℕ) → at i ≡ found_by_rank built items i) → items ≡ given → All is_such given → (x : A) → ((y : A) → is_such y → y ≡ x) → (i : List ℕ) → at i ≡ inside lengths i (Some x)
shown_alone built lengths items given at is_such same checked many shows are all x alone i = by_test (in_box lengths i) refl
  where
    by_test : (b : Bool) → in_box lengths i ≡ b → at i ≡ inside lengths i (Some x)
    by_test true h = let found = shown_such built lengths items given at is_such same checked many shows are all i h in rw h (found.1 ∙ ap Some (alone found.0 found.2))
    by_test false h = shows i ∙ (rw (same, h) refl)

pub all_alike : {A : Type 0} (n : ℕ) (x : A) → All (λ y. y ≡ x) (replicate n x)
all_alike n x k d below = get_or-replicate n k x d (omega (arith, below, length-replicate n x))

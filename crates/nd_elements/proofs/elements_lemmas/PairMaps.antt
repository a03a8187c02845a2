-- Closures that are shown two elements: a pair is an element to all that is known of closures that are shown one.
use Rattle.nd_elements.proofs.NamesFromOtherCrates.{◌≡◌, ◌∙◌, ℕ, ◌<◌, refl, sym, ap, Option, None, Some, option_map, Mut, Bor, size_of, index_at, Placement}
use Rattle.nd_elements.specs.StorageByLayout.{shown_at}
use Rattle.nd_elements.specs.CollectedElements.{stored_by_rank}
use Rattle.nd_elements.proofs.PlacesAsCallsGetThem.{second_shown}
use Rattle.nd_elements.specs.elements.PairMaps.{pair_of, AnswersPair, AnswersPairsBy}
use Rattle.nd_elements.specs.elements.PairsWithOneWritten.{option_both}

-- a pair, from both of its sides
pub pair_is : {A B : Type 0} {o : Option A} {w : Option B} {x : A} {y : B} → o ≡ Some x → w ≡ Some y → pair_of o w ≡ Some (x, y)
pair_is one other = λ i. option_both (λ x y. (x, y)) (one i) (other i)

pub pair_alike : {A B : Type 0} {o o' : Option A} {w w' : Option B} → o ≡ o' → w ≡ w' → pair_of o w ≡ pair_of o' w'
pair_alike one other = λ i. option_both (λ x y. (x, y)) (one i) (other i)

-- an answer that is what h gives of both
pub pair_by : {F A B C : Type 0} (g : Mut F (Bor A × (Bor B × Unit {0})) C) (h : A → B → C) (f : F) → AnswersPairsBy g h f → (o : Option (A × B)) (z : C) (q : F) → AnswersPair g f o z q → (q ≡ f) × (Some z ≡ option_map (λ p. h p.0 p.1) o)
pair_by g h f by o z q call = let gives = by call.0 call.1 z q call.3 in (gives.0, ap Some gives.1 ∙ ap (option_map (λ p. h p.0 p.1)) (sym call.2))

-- h of a pair is h of both
pub pair_mapped : {A B C : Type 0} (h : A → B → C) (o : Option A) (w : Option B) → option_map (λ p. h p.0 p.1) (pair_of o w) ≡ option_both h o w
pair_mapped h (Some x) (Some y) = refl
pair_mapped h (Some x) None = refl
pair_mapped h None w = refl

-- outside the first one's shape there is no pair
pub pair_none : {A B : Type 0} {o : Option A} (w : Option B) → o ≡ None → pair_of o w ≡ None
pair_none w none = ap (λ o. pair_of o w) none

-- a second placement of the same lengths, by the ranks of the first
pub second_there : {A : Type 0} (others : ℕ → Option A) (one two : Placement) → two.lengths ≡ one.lengths → (rank : ℕ) → rank < size_of one.lengths → stored_by_rank others two.offset two.lengths two.strides rank ≡ shown_at others two (index_at one.lengths rank)
second_there others one two alike rank below = ap (λ ns. stored_by_rank others two.offset ns two.strides rank) alike ∙ sym (second_shown others one two alike rank below)

-- Closures that are shown three elements: a triple is an element to all that is known of closures that are shown one.
use Rattle.nd_elements.proofs.NamesFromOtherCrates.{◌≡◌, ◌∙◌, ◌+◌, ◌<◌, ℕ, refl, sym, ap, Option, None, Some, option_map, Mut, Bor, IsLane, Lane, along}
use Rattle.nd_elements.specs.StoragePlaces.{stored_at}
use Rattle.nd_elements.specs.BorrowedAndOwnedStorages.{shown_by}
use Rattle.nd_elements.proofs.elements_lemmas.PairMaps.{pair_alike, pair_is}
use Rattle.nd_array_core.specs.declared.elements.dimensionless_views.Along.{Along}
use Rattle.nd_array_core.specs.declared.elements.dimensionless_views.Laid.{Laid}
use Rattle.nd_array_core.specs.elements.TripleMaps.{AnswersTriple, AnswersTriplesBy, lane_shows, option_of_three, rank_shows, triple_of}

-- a triple, from all three sides
pub triple_is : {A B C : Type 0} {o : Option A} {w : Option B} {v : Option C} {x : A} {y : B} {z : C} → o ≡ Some x → w ≡ Some y → v ≡ Some z → triple_of o w v ≡ Some (x, (y, z))
triple_is one two three = pair_is one (pair_is two three)

pub triple_alike : {A B C : Type 0} {o o' : Option A} {w w' : Option B} {v v' : Option C} → o ≡ o' → w ≡ w' → v ≡ v' → triple_of o w v ≡ triple_of o' w' v'
triple_alike one two three = pair_alike one (pair_alike two three)

-- an answer that is what h gives of all three
pub triple_by : {F A B C E : Type 0} (g : Mut F (Bor A × (Bor B × (Bor C × Unit {0}))) E) (h : A → B → C → E) (f : F) → AnswersTriplesBy g h f → (o : Option (A × (B × C))) (e : E) (q : F) → AnswersTriple g f o e q → (q ≡ f) × (Some e ≡ option_map (λ t. h t.0 t.1.0 t.1.1) o)
triple_by g h f by o e q call = let gives = by call.0 call.1 call.2 e q call.4 in (gives.0, ap Some gives.1 ∙ ap (option_map (λ t. h t.0 t.1.0 t.1.1)) (sym call.3))

-- h of a triple is h of all three
pub triple_mapped : {A B C E : Type 0} (h : A → B → C → E) (o : Option A) (w : Option B) (v : Option C) → option_map (λ t. h t.0 t.1.0 t.1.1) (triple_of o w v) ≡ option_of_three h o w v
triple_mapped h (Some x) (Some y) (Some z) = refl
triple_mapped h (Some x) (Some y) None = refl
triple_mapped h (Some x) None v = refl
triple_mapped h None w v = refl

-- a lane of all elements shows those of its ranks
pub lane_of_ranks : {A : Type 0} (part : Along A) (all : Laid A) (lane : Lane) → part.elements ≡ all.elements → along part.lane ≡ along lane → {rank count : ℕ} → IsLane all.places.first all.places.lengths.now all.places.strides.now rank lane.place count lane.stride
    → (k : ℕ) → k < count → lane_shows part k ≡ rank_shows all (rank + k)
lane_of_ranks part all lane same there lies k below = (λ i. stored_at (shown_by (same i)) ((there i).place k)) ∙ ap (stored_at (shown_by all.elements)) (lies.places k below)

-- The elements of a vector moved to seats of their own, the last one first.
use Rattle.nd_elements.proofs.NamesFromOtherCrates.{◌≡◌, ℕ, zero, suc, ◌≤◌, Bool, true, false, List, [], ◌∷◌, ◌++◌, nat_eq, refl, ap, sym, ◌∙◌, arith, nat_tests, append-nil, append_assoc, length_push, slice_get_past, ◌<◌, ℤ, Option, Some, None, length, slice_get, slice_index_or, if◌then◌else◌}
use Rattle.nd_elements.specs.StoragePlaces.{kept_at, stored_at}
use Rattle.nd_elements.specs.growth.ElementsMovedOut.{is_kept, AreKept}
use Rattle.nd_elements.proofs.elements_lemmas.ElementsHandedToBeWritten.{stored_same}

pub marked : (marks : List Bool) (p : ℕ) → slice_get marks p ≡ Some true → is_kept marks p ≡ true
marked [] p is = refl
marked (x ∷ marks) zero is = cc
marked (x ∷ marks) (suc p) is = marked marks p is

module _ {A : Type 0} where
  -- those after the ones that are left sit where they belong, if they are kept
  pub record IsSeatedAfter (marks : List Bool) (all left : List A) (seats : ℕ → Option A) : Type 0 where
    pub rest : List A
    pub whole : all ≡ left ++ rest
    pub done : (p : ℕ) → length left ≤ p → is_kept marks p ≡ true → seats p ≡ slice_get all p

  -- no element sits past the end
  pub none_past : (xs : List A) (fs : List Bool) (p : ℕ) → length xs ≤ p → kept_at (λ q. slice_index_or fs q false) (slice_get xs) p ≡ None
  none_past xs fs p past = ap (λ o. if slice_index_or fs p false then o else None) (slice_get_past xs p past) ∙ never (slice_index_or fs p false)
    where
      never : (t : Bool) → ◌≡◌ {A = Option A} (if t then None else None) None
      never true = refl
      never false = refl

  pub seated_none : (marks : List Bool) (all : List A) (seats : ℕ → Option A) → ((p : ℕ) → length all ≤ p → seats p ≡ None) → IsSeatedAfter marks all all seats
  seated_none marks all seats outside = record { rest = []; whole = sym (append-nil all); done = λ p past kept. outside p past ∙ sym (slice_get_past all p past) }

  after : (next : List A) (x : A) (rest : List A) → slice_get (next ++ x ∷ rest) (length next) ≡ Some x
  after [] x rest = refl
  after (y ∷ next) x rest = after next x rest

  -- one more
  pub seated_more : (marks : List Bool) (all left next : List A) (seats new : ℕ → Option A) (x : A) (place : ℕ) → IsSeatedAfter marks all left seats → left ≡ next ++ x ∷ [] → place ≡ length next
      → (is_kept marks place ≡ true → new place ≡ Some x) → ((q : ℕ) → (q ≡ place → ⊥) → new q ≡ seats q) → IsSeatedAfter marks all next new
  seated_more marks all left next seats new x place so_far popped at put others = record {
    rest = x ∷ so_far.rest;
    whole = whole;
    done = λ p past kept. by_test p past kept (nat_eq p place) refl;
  }
    where
      whole : all ≡ next ++ x ∷ so_far.rest
      whole = so_far.whole ∙ ap (λ xs. xs ++ so_far.rest) popped ∙ append_assoc next (x ∷ []) so_far.rest

      here : slice_get all place ≡ Some x
      here = ap (slice_get all) at ∙ ap (λ xs. slice_get xs (length next)) whole ∙ after next x so_far.rest

      by_test : (p : ℕ) → length next ≤ p → is_kept marks p ≡ true → (t : Bool) → nat_eq p place ≡ t → new p ≡ slice_get all p
      by_test p past kept true e = let same : p ≡ place = grind (arith, nat_tests, e) in ap new same ∙ put (ap (is_kept marks) (sym same) ∙ kept) ∙ sym here ∙ ap (slice_get all) (sym same)
      by_test p past kept false e = let other : p ≡ place → ⊥ = λ is. grind (arith, nat_tests, e, is) in let long = ap length popped ∙ length_push next x in
          others p other ∙ so_far.done p (omega (arith, long, past, other, at)) kept

  -- each element that is kept sits at its place
  pub seated_places : (place : ℕ → ℤ) (count : ℕ) (marks bs : List Bool) (all xs : List A) (seats : ℕ → Option A) → AreKept place count marks → bs ≡ marks → all ≡ xs → ((p : ℕ) → is_kept bs p ≡ true → seats p ≡ slice_get all p)
      → (k : ℕ) → k < count → stored_at seats (place k) ≡ stored_at (slice_get xs) (place k)
  seated_places place count marks bs all xs seats kept same are each k below =
      stored_same (slice_get xs) seats (place k) (λ p at. each p (ap (λ l. is_kept l p) same ∙ kept k p below at) ∙ ap (λ ys. slice_get ys p) are)

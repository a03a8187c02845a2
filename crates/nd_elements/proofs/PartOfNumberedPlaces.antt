-- A part of numbered places: what holds of all of them holds of it, and what is found there is found in the whole.
use Rattle.nd_elements.proofs.NamesFromOtherCrates.{◌≡◌, ◌+◌, ◌<◌, ◌++◌, ◌∙◌, ℕ, List, ap, sym, arith, append_assoc, Option, Some, IsTrue, is_some, Numbered}
use Rattle.nd_elements.specs.LackOfMemory.{MayLackBelow}
use Rattle.nd_elements.specs.EqualClones.{ClonesAreEqual}
use Rattle.nd_elements.specs.CollectedElements.{collected}
use Rattle.nd_elements.specs.StoragePlaces.{stored_at, names_place}
use Rattle.nd_elements.specs.elements.TransposedRowParts.{GoesOnAs}
use Rattle.nd_elements.proofs.elements_lemmas.ElementsCollectedInOrder.{collected_alike, collected_then}

module _ (whole : Numbered) (from : ℕ) (part : Numbered) (of : GoesOnAs whole from part) {A : Type 0} (stored : ℕ → Option A) where
  abbrev all : ℕ → Option A
  all k = stored_at stored (whole.place k)

  abbrev some : ℕ → Option A
  some k = stored_at stored (part.place k)

  within : (k : ℕ) → k < part.count → from + k < whole.count
  within k below = let end = of.within in omega (arith, end, below)

  pub part_holds : ((k : ℕ) → k < whole.count → IsTrue (names_place stored (whole.place k))) → (k : ℕ) → k < part.count → IsTrue (names_place stored (part.place k))
  part_holds holds k below = ap (λ z. is_some (stored_at stored z)) (of.same k below) ∙ holds (from + k) (within k below)

  pub part_clones : (is_clone : A → A → Type 0) → ((k : ℕ) (x : A) → k < whole.count → all k ≡ Some x → ClonesAreEqual is_clone x) → (k : ℕ) (x : A) → k < part.count → some k ≡ Some x → ClonesAreEqual is_clone x
  part_clones is_clone equal k x below is = equal (from + k) x (within k below) (ap (stored_at stored) (sym (of.same k below)) ∙ is)

  pub part_refused : (is_infallible : A → Type 0) → MayLackBelow is_infallible some part.count → MayLackBelow is_infallible all whole.count
  part_refused is_infallible refused = (from + refused.0, refused.1, within refused.0 refused.2, ap (stored_at stored) (sym (of.same refused.0 refused.2)) ∙ refused.3, refused.4)

  pub part_after : (before old new : List A) → old ≡ before ++ collected all from → new ≡ old ++ collected some part.count → new ≡ before ++ collected all (from + part.count)
  part_after before old new one two =
      two
      ∙ ap (λ xs. xs ++ collected some part.count) one
      ∙ append_assoc before (collected all from) (collected some part.count)
      ∙ ap (λ xs. before ++ xs)
      (ap (λ xs. collected all from ++ xs) (collected_alike some (λ k. all (from + k)) part.count (λ k below. ap (stored_at stored) (of.same k below))) ∙ sym (collected_then all from part.count))

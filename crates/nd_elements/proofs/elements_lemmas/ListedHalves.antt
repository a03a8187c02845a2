-- Elements of a layout collected in two halves, one after the other.
use Rattle.nd_elements.proofs.NamesFromOtherCrates.{◌≡◌, ℕ, ◌+◌, ◌<◌, List, ◌++◌, ap, sym, ◌∙◌, arith, append_assoc, Option, size_of, FollowEachOther, rank_place, Placement}
use Rattle.nd_elements.specs.LackOfMemory.{MayLackBelow}
use Rattle.nd_elements.specs.CollectedElements.{collected, IsFront}
use Rattle.nd_elements.specs.StoragePlaces.{stored_at}
use Rattle.nd_elements.proofs.elements_lemmas.ElementsCollectedInOrder.{collected_alike, collected_then}

module _ {A : Type 0} (stored : ℕ → Option A) (whole first second : Placement) (follow : FollowEachOther whole first second) where
  abbrev at : Placement → ℕ → Option A
  at p r = stored_at stored (rank_place p r)

  abbrev size : Placement → ℕ
  size p = size_of p.lengths

  pub first_within : (r : ℕ) → r < size first → r < size whole
  first_within r below = let e = follow.size in omega (arith, e, below)

  pub second_within : (r : ℕ) → r < size second → size first + r < size whole
  second_within r below = let e = follow.size in omega (arith, e, below)

  pub first_refused : (is_infallible : A → Type 0) → MayLackBelow is_infallible (at first) (size first) → MayLackBelow is_infallible (at whole) (size whole)
  first_refused is_infallible refused = (refused.0, refused.1, first_within refused.0 refused.2, ap (stored_at stored) (sym (follow.early refused.0 refused.2)) ∙ refused.3, refused.4)

  pub second_refused : (is_infallible : A → Type 0) → MayLackBelow is_infallible (at second) (size second) → MayLackBelow is_infallible (at whole) (size whole)
  second_refused is_infallible refused = (size first + refused.0, refused.1, second_within refused.0 refused.2, ap (stored_at stored) (sym (follow.late refused.0 refused.2)) ∙ refused.3, refused.4)

  both_collected : collected (at whole) (size whole) ≡ collected (at first) (size first) ++ collected (at second) (size second)
  both_collected =
      ap (collected (at whole)) (sym follow.size)
      ∙ collected_then (at whole) (size first) (size second)
      ∙ ((λ k. collected_alike (at whole) (at first) (size first) (λ r below. ap (stored_at stored) (sym (follow.early r below))) k
      ++ collected_alike (λ r. at whole (size first + r)) (at second) (size second) (λ r below. ap (stored_at stored) (sym (follow.late r below))) k))

  pub both_listed : (before mid new : List A) → mid ≡ before ++ collected (at first) (size first) → new ≡ mid ++ collected (at second) (size second) → new ≡ before ++ collected (at whole) (size whole)
  both_listed before mid new one two =
      two
      ∙ ap (λ xs. xs ++ collected (at second) (size second)) one
      ∙ append_assoc before (collected (at first) (size first)) (collected (at second) (size second))
      ∙ ap (λ xs. before ++ xs) (sym both_collected)

  pub both_counted : (before mid new : ℕ) → mid ≡ before + size first → new ≡ mid + size second → new ≡ before + size whole
  both_counted before mid new one two = let e = follow.size in omega (arith, e, one, two)

pub front_again : {A : Type 0} (before added mid new : List A) → mid ≡ before ++ added → IsFront mid new → IsFront before new
front_again before added mid new one front = (added ++ front.0, front.1 ∙ ap (λ xs. xs ++ front.0) one ∙ append_assoc before added front.0)

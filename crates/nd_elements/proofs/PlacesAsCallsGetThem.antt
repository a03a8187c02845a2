-- What holds by a layout's indexes, by the ranks of its places as a call is handed them.
use Rattle.nd_elements.proofs.NamesFromOtherCrates.{◌≡◌, ℕ, ◌<◌, true, List, refl, ap, ◌∙◌, length, sym, subst, Option, in_box, size_of, row_rank, index_at, place_of, in_box-index_at, index_at-row_rank, Placement, KeepsApart, by_rank}
use Rattle.nd_elements.specs.StorageByLayout.{shown_at, HoldsEach}
use Rattle.nd_elements.specs.LackOfMemory.{MayLackBelow, MayLackForClone}
use Rattle.nd_elements.specs.CollectedElements.{stored_by_rank}
use Rattle.nd_elements.specs.StoragePlaces.{stored_at}
use Rattle.nd_elements.specs.EqualClones.{ClonesOfAllAreEqual}
use Rattle.nd_elements.specs.ElementsAtNumberedPlaces.{Holds, PlacesDiffer, ClonesAreEqualAt}
use Rattle.nd_elements.proofs.elements_lemmas.PairedElements.{ranks_apart}

-- a second placement of the same lengths, by the ranks of the first
module _ {A : Type 0} (others : ℕ → Option A) (one two : Placement) (alike : two.lengths ≡ one.lengths) where
  second_inside : (rank : ℕ) → rank < size_of one.lengths → in_box two.lengths (index_at one.lengths rank) ≡ true
  second_inside rank below = ap (λ ns. in_box ns (index_at one.lengths rank)) alike ∙ in_box-index_at one.lengths rank below

  -- what is shown at the index of a rank
  pub second_shown : (rank : ℕ) → rank < size_of one.lengths → shown_at others two (index_at one.lengths rank) ≡ stored_by_rank others two.offset one.lengths two.strides rank
  second_shown rank below = rw (second_inside rank below) refl

  pub second_given : (i : List ℕ) → in_box one.lengths i ≡ true → stored_by_rank others two.offset two.lengths two.strides (row_rank one.lengths i) ≡ shown_at others two i
  second_given i h =
      let there : in_box two.lengths i ≡ true = ap (λ ns. in_box ns i) alike ∙ h in
      rw there (ap (λ j. stored_at others (place_of two.offset two.strides j)) (ap (λ ns. index_at ns (row_rank one.lengths i)) alike ∙ index_at-row_rank one.lengths i h))

  pub second_refused : (is_infallible : A → Type 0) → MayLackBelow is_infallible (stored_by_rank others two.offset one.lengths two.strides) (size_of one.lengths) → MayLackForClone is_infallible (shown_at others two)
  second_refused is_infallible refused = (index_at one.lengths refused.0, refused.1, second_shown refused.0 refused.2 ∙ refused.3, refused.4)

pub handed_alike : {to one from two : Placement} → to ≡ one → from ≡ two → two.lengths ≡ one.lengths → from.lengths ≡ to.lengths
handed_alike is_one is_two alike = ap (λ p. p.lengths) is_two ∙ (alike ∙ sym (ap (λ p. p.lengths) is_one))

module _ {to one : Placement} (is : to ≡ one) where
  pub handed_apart : length one.strides ≡ length one.lengths → KeepsApart one → PlacesDiffer (by_rank to)
  handed_apart many apart = subst (λ p. PlacesDiffer (by_rank p)) (sym is) (ranks_apart one.offset one.lengths one.strides many apart)

  module _ {S A : Type 0} (stored : S → ℕ → Option A) (s : S) where
    pub handed_holds : HoldsEach (stored s) one → Holds stored (by_rank to) s
    handed_holds holds = subst (λ p. Holds stored (by_rank p) s) (sym is) (λ rank below. holds (index_at one.lengths rank) (in_box-index_at one.lengths rank below))

    pub handed_clones : (is_clone : A → A → Type 0) → ClonesOfAllAreEqual is_clone (shown_at (stored s) one) → ClonesAreEqualAt is_clone stored (by_rank to) s
    handed_clones is_clone clones =
        subst (λ p. ClonesAreEqualAt is_clone stored (by_rank p) s) (sym is)
        (λ rank x below shows. clones (index_at one.lengths rank) x (second_shown (stored s) one one refl rank below ∙ shows))

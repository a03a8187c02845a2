-- Elements of two storages handed out in pairs where two layouts have their indexes: in order, turned alike, and half by half.
use Rattle.nd_elements.proofs.NamesFromOtherCrates.{◌≡◌, ◌<◌, ℕ, ℤ, sym, subst, true, List, length, ap, ◌∙◌, Bor, MutBor, Mut, Option, size_of, in_box, rearranged_itself, by_rank, Placement, IsRearrangedOf, KeepsApart, place_at_rank, AreHalved, AreTurned}
use Rattle.nd_elements.specs.StorageByLayout.{shown_at, HoldsEach, StaysOutside}
use Rattle.nd_elements.specs.CallsInFreeOrder.{VisitedInSomeOrder}
use Rattle.nd_elements.specs.elements.PairsWithOneWritten.{ChangesWith, ZippableInAnyOrder, MayZipAt, ZipsAt, ChangesWithSomehow, TakesBoth}
use Rattle.nd_elements.proofs.elements_lemmas.PairedElements.{places_zippable, zips_all, zipped_holds, others_stay, zip_somehow}
use Rattle.nd_elements.proofs.PlacesAsCallsGetThem.{second_shown}
use Rattle.nd_elements.proofs.CallsInFreeOrder.{folds_weaker}
use Rattle.nd_elements.proofs.elements_lemmas.StorageInHalves.{step_shown, low_there, high_there, low_aside, high_aside, low_shown, high_shown}
use Rattle.nd_elements.proofs.elements_lemmas.IndexVisitingOrders.{named_callable, named_visited, low_callable, high_callable, both_visited}

-- of the places that a call was handed
module _ {S Z F A B : Type 0} (g : Mut F (MutBor A × (Bor B × Unit {0})) (Unit {0} × (MutBor A × Unit {0}))) (stored : S → ℕ → Option A) (others_stored : Z → ℕ → Option B) (others : Z) (old : S) (f : F) {to one from two : Placement} (is_one : to ≡ one) (is_two : from ≡ two) (alike : two.lengths ≡ one.lengths) where
  abbrev itself : IsRearrangedOf one one
  itself = rearranged_itself one.offset one.lengths one.strides

  -- the places of the second layout, by the ranks of the first
  abbrev other_to : ℕ → ℤ
  other_to = place_at_rank two.offset one.lengths two.strides

  pub layouts_zippable : ZippableInAnyOrder g one.lengths (shown_at (stored old) one) (shown_at (others_stored others) two) f → MayZipAt g stored others_stored (by_rank to) (by_rank from) old others f
  layouts_zippable callable =
      subst (λ p. MayZipAt g stored others_stored (by_rank p) (by_rank from) old others f) (sym is_one)
      (subst (λ p. MayZipAt g stored others_stored (by_rank one) (by_rank p) old others f) (sym is_two)
      (subst (λ ns. MayZipAt g stored others_stored (by_rank one) (record { count = size_of ns; place = place_at_rank two.offset ns two.strides }) old others f) (sym alike)
      (places_zippable g (others_stored others) one.offset one.lengths one.strides one.offset one.lengths one.strides itself other_to (shown_at (others_stored others) two) (λ rank below. sym (second_shown (others_stored others) one two alike rank below)) (stored old) f callable)))

  pub layouts_zipped : (new : S) (last : F) → ZipsAt g stored others_stored (by_rank to) (by_rank from) others old new f last
      → VisitedInSomeOrder one.lengths (λ p i q. ChangesWith g (shown_at (others_stored others) two i) (shown_at (stored old) one i) (shown_at (stored new) one i) p q) f last × HoldsEach (stored new) one × StaysOutside one (stored old) (stored new)
  layouts_zipped new last zipped =
      let shows = λ (rank : ℕ) (below : rank < size_of one.lengths). sym (second_shown (others_stored others) one two alike rank below) in
      let changed =
      subst (λ ns. ZipsAt g stored others_stored (by_rank one) (record { count = size_of ns; place = place_at_rank two.offset ns two.strides }) others old new f last) alike
      (subst (λ p. ZipsAt g stored others_stored (by_rank p) (by_rank two) others old new f last) is_one
      (subst (λ p. ZipsAt g stored others_stored (by_rank to) (by_rank p) others old new f last) is_two zipped)) in (
        zips_all g (others_stored others) one.offset one.lengths one.strides one.offset one.lengths one.strides itself other_to (shown_at (others_stored others) two) shows (stored old) (stored new) f last changed,
        zipped_holds g (others_stored others) one.offset one.lengths one.strides one.offset one.lengths one.strides itself other_to (shown_at (others_stored others) two) shows (stored old) (stored new) f last changed,
        others_stay one.offset one.lengths one.strides one.offset one.lengths one.strides itself (stored old) (stored new) changed.left,
      )

module _ {F A B : Type 0} (g : Mut F (MutBor A × (Bor B × Unit {0})) (Unit {0} × (MutBor A × Unit {0}))) (others : ℕ → Option B) where
  -- calls at an index: with what a map has there, and left what another has
  abbrev pub zips_at : Placement → Placement → (ℕ → Option A) → (ℕ → Option A) → F → List ℕ → F → Type 0
  zips_at one two old new p i q = ChangesWith g (shown_at others two i) (shown_at old one i) (shown_at new one i) p q

  abbrev somehow_at : Placement → Placement → (ℕ → Option A) → F → List ℕ → F → Type 0
  somehow_at one two old p i q = ChangesWithSomehow g (shown_at others two i) (shown_at old one i) p q

  abbrev takes_at : Placement → Placement → (ℕ → Option A) → F → List ℕ → Type 0
  takes_at one two old p i = TakesBoth g (shown_at others two i) (shown_at old one i) p

  same_call : {o o' : Option B} {x x' y y' : Option A} (p q : F) → o ≡ o' → x ≡ x' → y ≡ y' → ChangesWith g o x y p q → ChangesWith g o' x' y' p q
  same_call {o} {o'} {x} {x'} {y} {y'} p q e f h call = subst (λ s. ChangesWith g s x' y' p q) e (subst (λ s. ChangesWith g o s y' p q) f (subst (λ s. ChangesWith g o x s p q) h call))

  same_somehow : {o o' : Option B} {x x' : Option A} (p q : F) → o ≡ o' → x ≡ x' → ChangesWithSomehow g o x p q → ChangesWithSomehow g o' x' p q
  same_somehow {o} {o'} {x} {x'} p q e f call = subst (λ s. ChangesWithSomehow g s x' p q) e (subst (λ s. ChangesWithSomehow g o s p q) f call)

  same_takes : {o o' : Option B} {x x' : Option A} (p : F) → o ≡ o' → x ≡ x' → TakesBoth g o x p → TakesBoth g o' x' p
  same_takes {o} {o'} {x} {x'} p e f takes = subst (λ s. TakesBoth g s x' p) e (subst (λ s. TakesBoth g o s p) f takes)

  visited_somehow : (one two : Placement) (old new : ℕ → Option A) (f last : F) → VisitedInSomeOrder one.lengths (zips_at one two old new) f last → VisitedInSomeOrder one.lengths (somehow_at one two old) f last
  visited_somehow one two old new f last visited =
      (visited.0, visited.1, folds_weaker (λ p i q. zip_somehow g others (shown_at others two i) (shown_at old one i) (shown_at new one i) p q) visited.0 f last visited.2)

  -- turned alike
  module _ {one two to other_to : Placement} (turned : AreTurned one two to other_to) where
    there : {C : Type 0} (stored : ℕ → Option C) (j : List ℕ) → in_box to.lengths j ≡ true → shown_at stored to j ≡ shown_at stored one (turned.source j)
    there stored j h = step_shown one to turned.source turned.first stored j h

    aside : (j : List ℕ) → in_box to.lengths j ≡ true → shown_at others other_to j ≡ shown_at others two (turned.source j)
    aside j h = step_shown two other_to turned.source turned.second others j (ap (λ ns. in_box ns j) turned.alike ∙ h)

    pub turned_zippable : (old : ℕ → Option A) (f : F) → ZippableInAnyOrder g one.lengths (shown_at old one) (shown_at others two) f → ZippableInAnyOrder g to.lengths (shown_at old to) (shown_at others other_to) f
    turned_zippable old f callable =
        named_callable one.lengths to.lengths turned.source turned.back turned.once turned.first.within turned.inside turned.found (somehow_at one two old) (somehow_at to other_to old)
        (λ p j q h call. same_somehow p q (aside j h) (there old j h) call)
        (takes_at one two old) (takes_at to other_to old) (λ p j h takes. same_takes p (sym (aside j h)) (sym (there old j h)) takes) f callable

    pub turned_zipped : (old new : ℕ → Option A) (f last : F) → VisitedInSomeOrder to.lengths (zips_at to other_to old new) f last → VisitedInSomeOrder one.lengths (zips_at one two old new) f last
    turned_zipped old new f last visited =
        named_visited one.lengths to.lengths turned.source turned.back turned.once turned.first.within turned.inside turned.found (zips_at one two old new) (zips_at to other_to old new)
        (λ p j q h call. same_call p q (aside j h) (there old j h) (there new j h) call) f last visited

  -- in halves
  module _ {one two lower lower_two upper upper_two : Placement} (halved : AreHalved one two lower lower_two upper upper_two) where
    pub low_zippable : (old : ℕ → Option A) (f : F) → ZippableInAnyOrder g one.lengths (shown_at old one) (shown_at others two) f → ZippableInAnyOrder g lower.lengths (shown_at old lower) (shown_at others lower_two) f
    low_zippable old f callable =
        low_callable halved (somehow_at one two old) (somehow_at lower lower_two old) (somehow_at upper upper_two old) (takes_at one two old) (takes_at lower lower_two old) (takes_at upper upper_two old)
        (λ p i q h call. same_somehow p q (low_aside halved others i h) (low_there halved old i h) call)
        (λ p i h takes. same_takes p (sym (low_aside halved others i h)) (sym (low_there halved old i h)) takes) f callable

    module _ (as_many : length one.strides ≡ length one.lengths) (apart : KeepsApart one) (old mid : ℕ → Option A) (first : StaysOutside lower old mid) (f now : F) (low : VisitedInSomeOrder lower.lengths (zips_at lower lower_two old mid) f now) where
      pub high_zippable : ZippableInAnyOrder g one.lengths (shown_at old one) (shown_at others two) f → ZippableInAnyOrder g upper.lengths (shown_at mid upper) (shown_at others upper_two) now
      high_zippable callable =
          high_callable halved (somehow_at one two old) (somehow_at lower lower_two old) (somehow_at upper upper_two mid) (takes_at one two old) (takes_at lower lower_two old) (takes_at upper upper_two mid)
          (λ p i q h call. same_somehow p q (low_aside halved others i h) (low_there halved old i h) call)
          (λ p j q h call. same_somehow p q (high_aside halved others j h) (high_shown halved as_many apart old mid first j h) call)
          f now (visited_somehow lower lower_two old mid f now low)
          (λ p j h takes. same_takes p (sym (high_aside halved others j h)) (sym (high_shown halved as_many apart old mid first j h)) takes) callable

      pub halves_zipped : (new : ℕ → Option A) (last : F) → StaysOutside upper mid new → VisitedInSomeOrder upper.lengths (zips_at upper upper_two mid new) now last → VisitedInSomeOrder one.lengths (zips_at one two old new) f last
      halves_zipped new last second high =
          both_visited halved (zips_at one two old new) (zips_at lower lower_two old mid) (zips_at upper upper_two mid new) (takes_at one two old) (takes_at lower lower_two old) (takes_at upper upper_two mid)
          (λ p i q h call. same_call p q (low_aside halved others i h) (low_there halved old i h) (sym (low_shown halved as_many apart mid new second i h)) call)
          (λ p j q h call. same_call p q (high_aside halved others j h) (high_shown halved as_many apart old mid first j h) (high_there halved new j h) call)
          f now low last high

-- Whether two storages are equal, index by index: in whatever order the axes are, and half by half.
use Rattle.nd_elements.proofs.NamesFromOtherCrates.{◌≡◌, ℕ, Bool, true, false, ◌&&◌, List, ap, ◌∙◌, Option, Some, None, if◌then◌else◌, pointwise, filter_map, both_ways, and_parts, and_from, in_box, indexes_of, place_of, AreHalved, AreTurned, Placement}
use Rattle.nd_elements.specs.StorageByLayout.{shown_at, HoldsEach}
use Rattle.nd_elements.specs.ShapeAndElements.{inside}
use Rattle.nd_elements.specs.StoragePlaces.{stored_at}
use Rattle.nd_elements.proofs.elements_lemmas.ComparedElements.{is_inside, equal_at, all_at}
use Rattle.nd_elements.proofs.elements_lemmas.StorageInHalves.{step_shown, step_holds, shown_before, each_half, low_holds, low_others_hold, high_first_holds, high_others_hold, low_there, high_there, low_aside, high_aside}
use Rattle.nd_elements.proofs.BoolAndResultCases.{by_value}

pub inside_some : {A : Type 0} (ns i : List ℕ) (o : Option A) (x : A) → inside ns i o ≡ Some x → o ≡ Some x
inside_some ns i o x e = by_value (λ b. (if b then o else None) ≡ Some x → o ≡ Some x) (in_box ns i) (λ h e. e) (λ h e. absurd cc) e

module _ {A : Type 0} (E : A → A → Bool) (a b : ℕ → Option A) where
  -- the test, in row-major order
  abbrev AreEqual : Placement → Placement → Bool
  AreEqual p q = pointwise E (filter_map (shown_at a p) (indexes_of p.lengths)) (filter_map (shown_at b q) (indexes_of q.lengths))

  -- and what it says of each index
  abbrev EachEqual : Placement → Placement → Type 0
  EachEqual p q = (i : List ℕ) (x y : A) → shown_at a p i ≡ Some x → shown_at b q i ≡ Some y → E x y ≡ true

  told : (p q : Placement) → q.lengths ≡ p.lengths → HoldsEach a p → HoldsEach b q → AreEqual p q ≡ true → EachEqual p q
  told p q alike holds has = equal_at E a b p.offset q.offset p.lengths q.lengths p.strides q.strides alike holds has

  tells : (p q : Placement) → q.lengths ≡ p.lengths → HoldsEach a p → HoldsEach b q → EachEqual p q → AreEqual p q ≡ true
  tells p q alike holds has = all_at E a b p.offset q.offset p.lengths q.lengths p.strides q.strides alike holds has

  module _ {one two : Placement} (alike : two.lengths ≡ one.lengths) (holds : HoldsEach a one) (has : HoldsEach b two) where
    module _ {new_one new_two : Placement} (t : AreTurned one two new_one new_two) where
      new_holds : HoldsEach a new_one
      new_holds = step_holds one new_one t.source t.first a holds

      new_has : HoldsEach b new_two
      new_has = step_holds two new_two t.source t.second b has

      before_turned : AreEqual new_one new_two ≡ true → EachEqual one two
      before_turned h i x y e f =
          let in_one = is_inside one.lengths i (stored_at a (place_of one.offset one.strides i)) x e in
          let in_new = t.inside i in_one in
          told new_one new_two t.alike new_holds new_has h (t.back i) x y
          (step_shown one new_one t.source t.first a (t.back i) in_new ∙ ap (shown_at a one) (t.found i in_one) ∙ e)
          (step_shown two new_two t.source t.second b (t.back i) (ap (λ ns. in_box ns (t.back i)) t.alike ∙ in_new) ∙ ap (shown_at b two) (t.found i in_one) ∙ f)

      pub turned_equal : AreEqual new_one new_two ≡ AreEqual one two
      turned_equal =
          both_ways (AreEqual new_one new_two) (AreEqual one two) (λ h. tells one two alike holds has (before_turned h))
          (λ h. tells new_one new_two t.alike new_holds new_has (λ i x y e f. told one two alike holds has h (t.source i) x y (shown_before one new_one t.source t.first a i x e) (shown_before two new_two t.source t.second b i y f)))

    module _ {lower lower_two upper upper_two : Placement} (halved : AreHalved one two lower lower_two upper upper_two) where
      in_both : AreEqual lower lower_two ≡ true → AreEqual upper upper_two ≡ true → EachEqual one two
      in_both low high i x y e f =
          each_half halved (λ k. shown_at a one k ≡ Some x → shown_at b two k ≡ Some y → E x y ≡ true)
          (λ k h d g. told lower lower_two halved.low_alike (low_holds halved a holds) (low_others_hold halved b has) low k x y (low_there halved a k h ∙ d) (low_aside halved b k h ∙ g))
          (λ k h d g. told upper upper_two halved.high_alike (high_first_holds halved a holds) (high_others_hold halved b has) high k x y (high_there halved a k h ∙ d) (high_aside halved b k h ∙ g))
          i (is_inside one.lengths i (stored_at a (place_of one.offset one.strides i)) x e) e f

      in_low : AreEqual one two ≡ true → AreEqual lower lower_two ≡ true
      in_low all =
          tells lower lower_two halved.low_alike (low_holds halved a holds) (low_others_hold halved b has)
          (λ i x y e f. told one two alike holds has all i x y (shown_before one lower (λ j. j) halved.low_first a i x e) (shown_before two lower_two (λ j. j) halved.low_second b i y f))

      in_high : AreEqual one two ≡ true → AreEqual upper upper_two ≡ true
      in_high all =
          tells upper upper_two halved.high_alike (high_first_holds halved a holds) (high_others_hold halved b has)
          (λ i x y e f. told one two alike holds has all (halved.source i) x y (shown_before one upper halved.source halved.high_first a i x e) (shown_before two upper_two halved.source halved.high_second b i y f))

      halves_equal : (AreEqual lower lower_two && AreEqual upper upper_two) ≡ AreEqual one two
      halves_equal =
          both_ways (AreEqual lower lower_two && AreEqual upper upper_two) (AreEqual one two)
          (λ both. let parts = and_parts (AreEqual lower lower_two) (AreEqual upper upper_two) both in tells one two alike holds has (in_both parts.0 parts.1))
          (λ all. and_from (AreEqual lower lower_two) (AreEqual upper upper_two) (in_low all) (in_high all))

      -- what is told of the lower half, and then of the upper
      pub high_tells : true ≡ AreEqual lower lower_two → AreEqual upper upper_two ≡ AreEqual one two
      high_tells low = ap (λ t. t && AreEqual upper upper_two) low ∙ halves_equal

      pub low_differs : false ≡ AreEqual lower lower_two → false ≡ AreEqual one two
      low_differs low = ap (λ t. t && AreEqual upper upper_two) low ∙ halves_equal

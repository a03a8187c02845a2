-- How a constructor lays out what it is given: the elements in an order or under strides of the caller's, and what a
-- storage with so many elements shows.
use Rattle.nd_array_core.proofs.NamesFromOtherCrates.{◌≡◌, ℕ, ◌<◌, ◌≤◌, Bool, true, false, List, ℤ, pos, negsuc, refl, ap, ◌∙◌, arith, lt-ltb, ltb-true, Option, Some, None, nat_lt, is_some, IsSome, if◌then◌else◌, ⊤, in_box, size_of, HasCheckedSize, place_of, IsSeparated, Order, reach_down, elements_asked, given_place, ordered_strides, ordered_is_ranked, ranked_place, names_place, HoldsAll, inside, Placement}
use Rattle.nd_array_core.specs.base.ConstructorErrorsAndLayout.{first_places, IsLaidOut}
use Rattle.nd_array_core.proofs.base_lemmas.StorageHoldsGivenStrides.{given_holds}
use Rattle.nd_array_core.proofs.base_lemmas.NewArraysInOrder.{ranked_holds}

abbrev something_if : Bool → Option ⊤
something_if b = if b then Some tt else None

first_held : (n p : ℕ) → p < n → IsSome (first_places n p)
first_held n p below = rw (lt-ltb p n below) refl

pub order_laid : (order : Order) (ns : List ℕ) (count : ℕ) → HasCheckedSize ns → size_of ns ≤ count → IsLaidOut ns order None true count (record { offset = 0; lengths = ns; strides = ordered_strides order ns })
order_laid order ns count checked enough =
    let ranked = ordered_is_ranked order ns checked in
    record {
      offset_is = refl;
      lengths_are = refl;
      strides_are = refl;
      places = λ i h. ranked_place ranked i h;
      holds = ranked_holds ranked (first_places count) (λ p below. first_held count p (omega (arith, below, enough)));
      own_places = λ _ some. ranked.apart some;
    }

pub strides_laid : (offset : ℕ) (ns : List ℕ) (ss : List ℤ) (alone : Bool) (count : ℕ) → offset ≡ reach_down ns ss → elements_asked ns ss ≤ count
    → (alone ≡ true → 0 < size_of ns → IsSeparated ns ss) → (order : Order) → IsLaidOut ns order (Some ss) alone count (record { offset = offset; lengths = ns; strides = ss })
strides_laid offset ns ss alone count from enough apart order = record {
  offset_is = from;
  lengths_are = refl;
  strides_are = refl;
  places = λ i h. ap (λ o. place_of o ss i) from;
  holds = λ i h. ap (λ o. names_place (first_places count) (place_of o ss i)) from ∙ given_holds (first_places count) ns ss (λ p below. first_held count p (omega (arith, below, enough))) i h;
  own_places = apart;
}

module _ {A : Type 0} (stored : ℕ → Option A) (count : ℕ) (has : (p : ℕ) → p < count → IsSome (stored p)) where
  held_below : (p : ℕ) (b : Bool) → nat_lt p count ≡ b → is_some (something_if b) ≡ true → IsSome (stored p)
  held_below p true e some = has p (ltb-true p count e)
  held_below p false e some = cc

  held : (z : ℤ) → names_place (first_places count) z ≡ true → names_place stored z ≡ true
  held (pos p) some = held_below p (nat_lt p count) refl some
  held (negsuc n) some = some

  -- what has so many elements has one at the place of each index
  pub laid_holds : (l : Placement) → HoldsAll (first_places count) l.offset l.lengths l.strides → HoldsAll stored l.offset l.lengths l.strides
  laid_holds l holds i h = held (place_of l.offset l.strides i) (holds i h)

-- what lies at an index's place lies where the caller's shape says
pub laid_at : {lengths : List ℕ} {order : Order} {strides : Option (List ℤ)} {alone : Bool} {count : ℕ} {l : Placement} → IsLaidOut lengths order strides alone count l
    → {X : Type 0} (f : ℤ → Option X) (i : List ℕ) → inside l.lengths i (f (place_of l.offset l.strides i)) ≡ inside lengths i (f (given_place lengths order strides i))
laid_at {lengths} {order} {strides} {l = l} laid f i = ap (λ ns. inside ns i (f (place_of l.offset l.strides i))) laid.lengths_are ∙ at (in_box lengths i) refl
  where
    at : (b : Bool) → in_box lengths i ≡ b → inside lengths i (f (place_of l.offset l.strides i)) ≡ inside lengths i (f (given_place lengths order strides i))
    at true h = ap (λ z. inside lengths i (f z)) (laid.places i h)
    at false h = rw h refl

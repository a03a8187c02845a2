-- What a closure answers for the elements of three arrays at each index, where the second and the third are broadcast to
-- the shape of the first. It is called once for each index, in an order that is left free.
use Rattle.std.specs.Prelude.{◌≡◌, ℕ, List, [], Option, None, Some, length, slice_get}
use Rattle.std.specs.Borrow.{Bor}
use Rattle.std.specs.Fn.{Mut, Called}
use Rattle.std.specs.declared.vec.Vec.{Vec}
use Rattle.nd_shape_and_slice.specs.declared.dimension.Dimension as dimension
use Rattle.nd_shape_and_slice.specs.declared.dimension.AxisCount as axis_count
use Rattle.nd_shape_and_slice.specs.declared.dimension.StrideList as stride_list
use Rattle.nd_elements.specs.declared.storage.Data as data_trait
use Rattle.nd_layout.specs.NumberedPlacesAndWalks.{along, ranked}
use Rattle.nd_elements.specs.ShapeAndElements.{Meaning}
use Rattle.nd_elements.specs.ElementsAtNumberedPlaces.{elements_at}
use Rattle.nd_elements.specs.BorrowedAndOwnedStorages.{shown_by}
use Rattle.nd_elements.specs.elements.ElementMaps.{AnswersAfter, AskableOfAll, HasAnswersOfAll, TakesNumbered}
use Rattle.nd_elements.specs.elements.PairMaps.{pair_of, paired_with}
use Rattle.nd_array_core.specs.declared.base.array.ArrayBase.{ArrayBase}
use Rattle.nd_array_core.specs.ArrayMeaning.{meaning_of, element_at}
use Rattle.nd_array_core.specs.elements.BroadcastPairs.{other_at}
use Rattle.nd_array_core.specs.declared.elements.dimensionless_views.Along.{Along}
use Rattle.nd_array_core.specs.declared.elements.dimensionless_views.Laid.{Laid}

-- Returns what the function `h` gives of three elements if all three are present, and otherwise None.
abbrev pub option_of_three : {A B C E : Type 0} → (A → B → C → E) → Option A → Option B → Option C → Option E
option_of_three h (Some x) (Some y) (Some z) = Some (h x y z)
option_of_three h (Some x) (Some y) None = None
option_of_three h (Some x) None c = None
option_of_three h None b c = None

-- Returns three elements as a triple if all three are present, and otherwise None.
abbrev pub triple_of : {A B C : Type 0} → Option A → Option B → Option C → Option (A × (B × C))
triple_of a b c = pair_of a (pair_of b c)

-- Returns the meaning that has at each index the triple of the elements that `m`, `second` and `third` have there.
abbrev pub tripled_with : {A B C : Type 0} → Meaning A → (List ℕ → Option B) → (List ℕ → Option C) → Meaning (A × (B × C))
tripled_with m second third = paired_with m (λ i. pair_of (second i) (third i))

-- Returns the k-th element of a lane.
abbrev pub lane_shows : {A : Type 0} → Along A → ℕ → Option A
lane_shows v = elements_at shown_by (along v.lane) v.elements

-- Returns the element of row-major rank k of an array without its dimension type.
abbrev pub rank_shows : {A : Type 0} → Laid A → ℕ → Option A
rank_shows v = elements_at shown_by (ranked v.places) v.elements

-- Returns the k-th elements of three lanes as a triple.
abbrev pub lanes_show : {A B C : Type 0} → Along A → Along B → Along C → ℕ → Option (A × (B × C))
lanes_show one two three k = triple_of (lane_shows one k) (lane_shows two k) (lane_shows three k)

-- Returns the elements of row-major rank k of three arrays as a triple.
abbrev pub ranks_show : {A B C : Type 0} → Laid A → Laid B → Laid C → ℕ → Option (A × (B × C))
ranks_show one two three k = triple_of (rank_shows one k) (rank_shows two k) (rank_shows three k)

-- Returns the k-th items of three lists as a triple.
abbrev pub items_show : {A B C : Type 0} → List A → List B → List C → ℕ → Option (A × (B × C))
items_show xs ys zs k = triple_of (slice_get xs k) (slice_get ys k) (slice_get zs k)

module _ {F A B C E : Type 0} (g : Mut F (Bor A × (Bor B × (Bor C × Unit {0}))) E) where
  -- Says that the closure `f`, called with the elements of `triple`, returned `answer` and became `f'`.
  abbrev pub AnswersTriple : F → Option (A × (B × C)) → E → F → Type 0
  AnswersTriple f triple answer f' = (x : Bor A) × (y : Bor B) × (z : Bor C) × (triple ≡ Some (x.now, (y.now, z.now))) × Called g f (x, (y, (z, tt))) answer f'

  -- Says that the closure `f` may be called with the elements of `triple`.
  abbrev pub MayBeShownTriple : F → Option (A × (B × C)) → Type 0
  MayBeShownTriple f triple = (x : Bor A) (y : Bor B) (z : Bor C) → triple ≡ Some (x.now, (y.now, z.now)) → g.pre f (x, (y, (z, tt)))

  -- Says that the closure returns what the function `h` gives of its three elements, and stays as it is.
  abbrev pub AnswersTriplesBy : (A → B → C → E) → F → Type 0
  AnswersTriplesBy h f = (x : Bor A) (y : Bor B) (z : Bor C) (answer : E) (f' : F) → Called g f (x, (y, (z, tt))) answer f' → (f' ≡ f) × (answer ≡ h x.now y.now z.now)

  -- Says that, whichever triples of `m`, `second` and `third` were shown before, the closure may be called for the next.
  abbrev pub AskableOfTriples : Meaning A → (List ℕ → Option B) → (List ℕ → Option C) → F → Type 0
  AskableOfTriples m second third f = AskableOfAll AnswersTriple MayBeShownTriple (tripled_with m second third) f

  -- Says that `at` gives at each index what the closure answered for the triple there, with one call for each index.
  abbrev pub HasAnswersOfTriples : Meaning A → (List ℕ → Option B) → (List ℕ → Option C) → F → (List ℕ → Option E) → Type 0
  HasAnswersOfTriples m second third f at = HasAnswersOfAll AnswersTriple (tripled_with m second third) f at

  -- Says that the closure may be called for the items of three lists, position by position.
  abbrev pub MayShowItems : List A → List B → List C → F → Type 0
  MayShowItems xs ys zs f = TakesNumbered AnswersTriple MayBeShownTriple (items_show xs ys zs) f (length xs)

  -- Says that the closure was called for the items of three lists, position by position, and that its answers stand in the
  -- new vector after what the old one had.
  abbrev pub PushesItemwise : {Y : Type 0} → List A → List B → List C → F → Vec E Y → Vec E Y → F → Type 0
  PushesItemwise xs ys zs first old new last =
      AnswersAfter AnswersTriple (items_show xs ys zs) (length xs) old.items new.items first last

  -- Says that the closure may be called for the elements along three lanes, position by position.
  abbrev pub MayShowAlong : Along A → Along B → Along C → F → Type 0
  MayShowAlong one two three f = TakesNumbered AnswersTriple MayBeShownTriple (lanes_show one two three) f one.lane.count

  -- Says that the closure was called for the elements along three lanes, position by position, and that its answers stand in
  -- the new vector after what the old one had.
  abbrev pub PushesAlong : {Y : Type 0} → Along A → Along B → Along C → F → Vec E Y → Vec E Y → F → Type 0
  PushesAlong one two three first old new last =
      AnswersAfter AnswersTriple (lanes_show one two three) one.lane.count old.items new.items first last

  -- Says that the closure may be called for the elements of three arrays of one shape, in row-major order.
  abbrev pub MayShowRanked : Laid A → Laid B → Laid C → F → Type 0
  MayShowRanked one two three f = TakesNumbered AnswersTriple MayBeShownTriple (ranks_show one two three) f (ranked one.places).count

  -- Says that the closure was called for the elements of three arrays of one shape, in row-major order, and that its answers
  -- make the vector in `last`.
  abbrev pub AnswersRanked : {Y : Type 0} → Laid A → Laid B → Laid C → F → F × Vec E Y → Type 0
  AnswersRanked one two three first last =
      AnswersAfter AnswersTriple (ranks_show one two three) (ranked one.places).count [] last.1.items first last.0

-- Statements about an array and two others, each of which is broadcast to its shape.
module _
    {S D T A R : Type 0} {s : data_trait.Ghosts S A} {d : dimension.Ghosts D R} {n : axis_count.Ghosts D} {r : stride_list.Ghosts R} {t : stride_list.Ghosts T}
    {Z G U B X : Type 0} {z : data_trait.Ghosts Z B} {e : dimension.Ghosts G X} {k : axis_count.Ghosts G} {x : stride_list.Ghosts X} {u : stride_list.Ghosts U}
    {Y H V C W : Type 0} {y : data_trait.Ghosts Y C} {j : dimension.Ghosts H W} {l : axis_count.Ghosts H} {w : stride_list.Ghosts W} {v : stride_list.Ghosts V} where
  module _ {F E : Type 0} (g : Mut F (Bor A × (Bor B × (Bor C × Unit {0}))) E) where
    -- Says that, whichever elements of `a` were shown before, each with those of `b` and `c`, the closure may be called for
    -- the next three.
    abbrev pub AskableOfThree : ArrayBase S D T A R s d n r t → ArrayBase Z G U B X z e k x u → ArrayBase Y H V C W y j l w v → F → Type 0
    AskableOfThree a b c f = AskableOfTriples g (meaning_of a) (other_at a b) (other_at a c) f

  module _ {K L M E P : Type 0} {m : data_trait.Ghosts K E} {o : dimension.Ghosts L P} {p : axis_count.Ghosts L} {q : stride_list.Ghosts P} {i : stride_list.Ghosts M} where
    -- Says that `made` has at each index what the closure answered for the elements of `a`, `b` and `c` there, with one call
    -- for each index.
    abbrev pub ShowsAnswersOfThree : {F : Type 0} → Mut F (Bor A × (Bor B × (Bor C × Unit {0}))) E → ArrayBase S D T A R s d n r t → ArrayBase Z G U B X z e k x u → ArrayBase Y H V C W y j l w v → F → ArrayBase K L M E P m o p q i → Type 0
    ShowsAnswersOfThree g a b c f made = HasAnswersOfTriples g (meaning_of a) (other_at a b) (other_at a c) f (element_at made)

    -- Says that `made` has at each index what the function `h` gives of the elements of `a`, `b` and `c` there.
    abbrev pub ShowsOfThree : (A → B → C → E) → ArrayBase S D T A R s d n r t → ArrayBase Z G U B X z e k x u → ArrayBase Y H V C W y j l w v → ArrayBase K L M E P m o p q i → Type 0
    ShowsOfThree h a b c made = (index : List ℕ) → element_at made index ≡ option_of_three h (element_at a index) (other_at a b index) (other_at a c index)

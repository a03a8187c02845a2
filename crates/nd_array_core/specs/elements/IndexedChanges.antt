-- Closures that are handed each index with the element there, to be written, one after the other in row-major order.
use Rattle.std.specs.Prelude.{◌≡◌, ℕ, List, Option, Some, IsTrue}
use Rattle.std.specs.Borrow.{MutBor}
use Rattle.std.specs.Fn.{Mut, Called}
use Rattle.std.specs.Option.{option_map}
use Rattle.nd_shape_and_slice.specs.ShapesAndIndexOrders.{in_box, size_of, row_rank, index_at}
use Rattle.nd_layout.specs.LayoutStepsOfCalls.{Placement}
use Rattle.nd_layout.specs.RowMajorWalk.{place_at_rank}
use Rattle.nd_elements.specs.elements.ElementChanges.{IsRewrittenTo}
use Rattle.nd_elements.specs.elements.ElementFolds.{RanTo}
use Rattle.nd_elements.specs.declared.storage.Data as data_trait
use Rattle.nd_shape_and_slice.specs.declared.dimension.Dimension as dimension
use Rattle.nd_shape_and_slice.specs.declared.dimension.AxisCount as axis_count
use Rattle.nd_shape_and_slice.specs.declared.dimension.StrideList as stride_list
use Rattle.nd_array_core.specs.declared.base.array.ArrayBase.{ArrayBase}
use Rattle.nd_array_core.specs.ArrayMeaning.{shape_of, element_at}

-- At each index stands what h gives of the index and of the element there. It is a record, so that a search finds h.
pub record IsMappedByIndex {A B : Type 0} (h : List ℕ → A → B) (old : List ℕ → Option A) (new : List ℕ → Option B) : Type 0 where
  pub elements : (i : List ℕ) → new i ≡ option_map (h i) (old i)

module _ {F X A : Type 0} (g : Mut F (X × (MutBor A × Unit {0})) (Unit {0} × (MutBor A × Unit {0}))) where
  -- A call of f with an index and a `&mut` to x may leave f' and x'.
  pub record CalledAtIndex (f : F) (index : X) (x : A) (f' : F) (x' : A) : Type 0 where
    pub lent_before : MutBor A
    pub value_before : lent_before.now ≡ x
    pub lent_after : MutBor A
    pub call_made : Called g f (index, (lent_before, tt)) (tt, (lent_after, tt)) f'
    pub value_after : lent_after.now ≡ x'

  -- A call was handed this index and an element, and left another one.
  abbrev pub ChangesWithIndex : X → Option A → Option A → F → F → Type 0
  ChangesWithIndex index old new p q = (x : A) × (y : A) × (old ≡ Some x) × (new ≡ Some y) × CalledAtIndex p index x q y

  -- It may be called with this index and an element.
  abbrev pub TakesWithIndex : X → Option A → F → Type 0
  TakesWithIndex index element p = (x : MutBor A) → element ≡ Some x.now → g.pre p (index, (x, tt))

  module _ (lengths_of : X → List ℕ) where
    -- A call was handed an index with these coordinates and the element there, and left another one.
    abbrev pub ChangesAtIndex : List ℕ → Option A → Option A → F → F → Type 0
    ChangesAtIndex i old new p q = (index : X) × (x : A) × (y : A) × (lengths_of index ≡ i) × (old ≡ Some x) × (new ≡ Some y) × CalledAtIndex p index x q y

    -- A call was handed them, whatever it left.
    abbrev pub ChangesAtIndexSomehow : List ℕ → Option A → F → F → Type 0
    ChangesAtIndexSomehow i old p q = (index : X) × (x : A) × (y : A) × (lengths_of index ≡ i) × (old ≡ Some x) × CalledAtIndex p index x q y

    -- It may be called with any index that has these coordinates, and the element there.
    abbrev pub TakesAtIndex : List ℕ → Option A → F → Type 0
    TakesAtIndex i element p = (index : X) → lengths_of index ≡ i → TakesWithIndex index element p

    -- One call for each index, in row-major order, left the new elements.
    abbrev pub ChangesInOrder : List ℕ → (List ℕ → Option A) → (List ℕ → Option A) → F → Type 0
    ChangesInOrder shape old new f = (last : F) × RanTo (λ p k q. ChangesAtIndex (index_at shape k) (old (index_at shape k)) (new (index_at shape k)) p q) f (size_of shape) last

    -- After the calls for all indexes before an index, whatever they left, the call for it may be made.
    abbrev pub ChangeableInOrder : List ℕ → (List ℕ → Option A) → F → Type 0
    ChangeableInOrder shape old f =
        (i : List ℕ) (now : F) → IsTrue (in_box shape i) → RanTo (λ p k q. ChangesAtIndexSomehow (index_at shape k) (old (index_at shape k)) p q) f (row_rank shape i) now → TakesAtIndex i (old i) now

    -- The closure leaves what h gives of the index and the element, and stays as it is.
    abbrev pub ChangesByIndex : List ℕ → (List ℕ → A → A) → F → Type 0
    ChangesByIndex shape h f = (index : X) (x y : A) (f' : F) → IsTrue (in_box shape (lengths_of index)) → CalledAtIndex f index x f' y → (f' ≡ f) × (y ≡ h (lengths_of index) x)

    -- Whatever function of the index and the element the closure is, its values stand there.
    abbrev pub ChangesIndexedAlike : List ℕ → F → (List ℕ → Option A) → (List ℕ → Option A) → Type 0
    ChangesIndexedAlike shape f old new = (h : List ℕ → A → A) → ChangesByIndex shape h f → IsMappedByIndex h old new

    -- The elements at the places of a placement were handed out by row-major rank, each with its index, and nothing else changed.
    abbrev pub ChangesRanked : Placement → (ℕ → Option A) → (ℕ → Option A) → F → F → Type 0
    ChangesRanked p old new first last =
        IsRewrittenTo (λ k o w q r. ChangesAtIndex (index_at p.lengths k) o w q r) (place_at_rank p.offset p.lengths p.strides) (size_of p.lengths) old new first last

-- The calls of a closure that is handed each index of an array with the element there.
module _ {S D T A R : Type 0} {s : data_trait.Ghosts S A} {d : dimension.Ghosts D R} {n : axis_count.Ghosts D} {r : stride_list.Ghosts R} {t : stride_list.Ghosts T} where
  module _ {F X : Type 0} (g : Mut F (X × (MutBor A × Unit {0})) (Unit {0} × (MutBor A × Unit {0}))) (lengths_of : X → List ℕ) where
    -- After the calls for all indexes before an index, whatever they left, the call for it may be made.
    abbrev pub MayChangeByIndex : ArrayBase S D T A R s d n r t → F → Type 0
    MayChangeByIndex a f = ChangeableInOrder g lengths_of (shape_of a) (element_at a) f

    -- One call for each index of a, in row-major order, left b's elements.
    abbrev pub ChangesEachIndex : ArrayBase S D T A R s d n r t → ArrayBase S D T A R s d n r t → F → Type 0
    ChangesEachIndex a b f = ChangesInOrder g lengths_of (shape_of a) (element_at a) (element_at b) f

    -- Whatever function of the index and the element the closure is, b has its values.
    abbrev pub ChangesEachAlike : ArrayBase S D T A R s d n r t → ArrayBase S D T A R s d n r t → F → Type 0
    ChangesEachAlike a b f = ChangesIndexedAlike g lengths_of (shape_of a) f (element_at a) (element_at b)

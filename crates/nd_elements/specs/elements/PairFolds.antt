-- Closures that fold two elements at a time into a total, in row-major order.
use Rattle.std.specs.Prelude.{◌≡◌, ◌<◌, ℕ, List, Option, Some}
use Rattle.std.specs.Borrow.{Bor}
use Rattle.std.specs.Fn.{Mut, Called}
use Rattle.std.specs.List.{fold}
use Rattle.nd_shape_and_slice.specs.ShapesAndIndexOrders.{size_of, index_at}
use Rattle.nd_layout.specs.NumberedPlacesAndWalks.{Numbered}
use Rattle.nd_elements.specs.ShapeAndElements.{Meaning, row_major_elements}
use Rattle.nd_elements.specs.elements.ElementFolds.{RanTo}
use Rattle.nd_elements.specs.elements.PairMaps.{paired_with, pairs_at}

module _ {F T A B : Type 0} (g : Mut F (T × (Bor A × (Bor B × Unit {0}))) T) where
  -- Says that a call for the two elements led from the closure and total `p` to `q`.
  abbrev pub FoldsPair : Option (A × B) → F × T → F × T → Type 0
  FoldsPair pair p q = (x : Bor A) × (y : Bor B) × (pair ≡ Some (x.now, y.now)) × Called g p.0 (p.1, (x, (y, tt))) q.1 q.0

  -- Says that the closure in `p` may be called with the total in `p` and references to the two elements.
  abbrev pub TakesPair : Option (A × B) → F × T → Type 0
  TakesPair pair p = (x : Bor A) (y : Bor B) → pair ≡ Some (x.now, y.now) → g.pre p.0 (p.1, (x, (y, tt)))

  -- Says that calls for the pairs with the numbers below `count`, one after the other, led from `first` to `last`.
  abbrev pub FoldsPairsTo : (ℕ → Option (A × B)) → F × T → ℕ → F × T → Type 0
  FoldsPairsTo found first count last = RanTo (λ p k q. FoldsPair (found k) p q) first count last

  -- Says that from `first` on, once all pairs with lower numbers were folded, a call may be made for the next pair with
  -- a number below `count`.
  abbrev pub TakesPairsInTurn : (ℕ → Option (A × B)) → F × T → ℕ → Type 0
  TakesPairsInTurn found first count = (k : ℕ) (now : F × T) → k < count → FoldsPairsTo found first k now → TakesPair (found k) now

  -- Says that each call of `f` returns what `h` gives of the total and both elements, and leaves `f` as it is.
  abbrev pub FoldsPairsBy : (T → A → B → T) → F → Type 0
  FoldsPairsBy h f = (t : T) (x : Bor A) (y : Bor B) (r : T) (f' : F) → Called g f (t, (x, (y, tt))) r f' → (f' ≡ f) × (r ≡ h t x.now y.now)

  -- Says that from `f` and `init` on, once all pairs of lower row-major rank were folded, a call may be made for the
  -- next pair of an element of `m` with that of `other` at the same index.
  abbrev pub FoldablePairs : Meaning A → (List ℕ → Option B) → F → T → Type 0
  FoldablePairs m other f init = TakesPairsInTurn (λ k. (paired_with m other).at (index_at m.shape k)) (f, init) (size_of m.shape)

  -- Says that calls for all pairs of an element of `m` with that of `other` at the same index, in row-major order, led
  -- from `f` and `init` to `total`.
  abbrev pub FoldsPairsInOrder : Meaning A → (List ℕ → Option B) → F → T → T → Type 0
  FoldsPairsInOrder m other f init total = (last : F) × FoldsPairsTo (λ k. (paired_with m other).at (index_at m.shape k)) (f, init) (size_of m.shape) (last, total)

  -- For every function `h` that tells what `f` returns, `total` is the fold by `h` from `init` on of the pairs of an
  -- element of `m` with that of `other` at the same index, in row-major order.
  abbrev pub FoldsPairsAlike : Meaning A → (List ℕ → Option B) → F → T → T → Type 0
  FoldsPairsAlike m other f init total = (h : T → A → B → T) → FoldsPairsBy h f → total ≡ fold (λ t p. h t p.0 p.1) init (row_major_elements (paired_with m other))

-- The elements that two storages hold at places with the same number, folded in pairs, one pair after the other.
module _ {S Z F T A B : Type 0} (g : Mut F (T × (Bor A × (Bor B × Unit {0}))) T) (stored : S → ℕ → Option A) (others_stored : Z → ℕ → Option B) (at theirs : Numbered) (s : S) (others : Z) where
  -- Says that from the closure and total `first` on, once all pairs with lower numbers were folded, a call may be made
  -- for the next.
  abbrev pub MayFoldPairs : F × T → Type 0
  MayFoldPairs first = TakesPairsInTurn g (pairs_at stored at s others_stored theirs others) first at.count

  -- Says that calls for all pairs, one after the other, led from the closure and total `first` to `last`.
  abbrev pub FoldsPairs : F × T → F × T → Type 0
  FoldsPairs first last = FoldsPairsTo g (pairs_at stored at s others_stored theirs others) first at.count last

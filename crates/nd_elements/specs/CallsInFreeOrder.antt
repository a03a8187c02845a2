-- Closures that are called once for each index of a shape, in an order that is free.
use Rattle.std.specs.Prelude.{◌≡◌, ◌≤◌, ℕ, List, ◌∷◌, Option, Some, if◌then◌else◌, IsTrue}
use Rattle.std.specs.Fn.{Mut, Called}
use Rattle.std.specs.List.{FoldsTo, count_by}
use Rattle.nd_shape_and_slice.specs.ShapesAndIndexOrders.{in_box}
use Rattle.nd_elements.specs.WritesByIndex.{is_index}

-- Says that `listing` has each index of the shape's box once, and nothing else.
abbrev pub ListsBox : List ℕ → List (List ℕ) → Type 0
ListsBox shape listing = (i : List ℕ) → count_by (is_index i) listing ≡ (if in_box shape i then 1 else 0)

-- Says that `listing` has only indexes of the shape's box, none of them twice.
abbrev pub ListsPartOfBox : List ℕ → List (List ℕ) → Type 0
ListsPartOfBox shape listing = (i : List ℕ) → count_by (is_index i) listing ≤ (if in_box shape i then 1 else 0)

-- The type `P` is of the state that calls change, such as a closure. `call p i q` says that a call for the index `i`
-- led from the state `p` to the state `q`.
module _ {P : Type 0} (shape : List ℕ) (call : P → List ℕ → P → Type 0) where
  -- Says that one call for each index of the box, in some order, led from the state `first` to the state `last`.
  abbrev pub VisitedInSomeOrder : P → P → Type 0
  VisitedInSomeOrder first last = (listing : List (List ℕ)) × ListsBox shape listing × FoldsTo call first listing last

  -- Says that whichever indexes were visited from the state `first` on, a call for each index that is left may be made.
  -- `takes now next` says that a call for `next` may be made in the state `now`.
  abbrev pub CallableInAnyOrder : (P → List ℕ → Type 0) → P → Type 0
  CallableInAnyOrder takes first = (before : List (List ℕ)) (now : P) (next : List ℕ) → IsTrue (in_box shape next) → ListsPartOfBox shape (next ∷ before) → FoldsTo call first before now → takes now next

-- `answers p i y q` says that a call for the index `i` returned `y`, and led from the state `p` to the state `q`.
module _ {P A : Type 0} (answers : P → List ℕ → A → P → Type 0) where
  -- Says that a call for the index `i` led from `p` to `q`, whatever it returned.
  abbrev pub AnswersAny : P → List ℕ → P → Type 0
  AnswersAny p i q = (y : A) × answers p i y q

  -- Says that a call for the index `i` led from `p` to `q`, and returned the element that `at` has at `i`.
  abbrev pub AnswersThere : (List ℕ → Option A) → P → List ℕ → P → Type 0
  AnswersThere at p i q = (y : A) × (at i ≡ Some y) × answers p i y q

  -- Says that one call was made for each index of the box, in some order from `first` on, and `at` has there what it
  -- returned.
  abbrev pub HasAnswers : List ℕ → P → (List ℕ → Option A) → Type 0
  HasAnswers shape first at = (last : P) × VisitedInSomeOrder shape (AnswersThere at) first last

  -- Says that whichever indexes were visited from `first` on, a call for each index of the box that is left may be
  -- made.
  abbrev pub AskableInAnyOrder : List ℕ → (P → List ℕ → Type 0) → P → Type 0
  AskableInAnyOrder shape takes first = CallableInAnyOrder shape AnswersAny takes first

-- Closures that are handed an index as a value of the type `X`, whose coordinates `lengths_of` tells.
module _ {F X A : Type 0} (g : Mut F (X × Unit {0}) A) (lengths_of : X → List ℕ) where
  -- Says that a call of `f` for the index `i` may return `y` and leave the closure as `f'`.
  abbrev pub AnswersIndex : F → List ℕ → A → F → Type 0
  AnswersIndex f i y f' = (x : X) × (lengths_of x ≡ i) × Called g f (x, tt) y f'

  -- Says that `f` may be called with any value of `X` that has the coordinates `i`.
  abbrev pub TakesIndex : F → List ℕ → Type 0
  TakesIndex f i = (x : X) → lengths_of x ≡ i → g.pre f (x, tt)

  -- Says that whichever indexes were visited from `f` on, the closure may be called for each index of the box that is
  -- left.
  abbrev pub AskableByIndex : List ℕ → F → Type 0
  AskableByIndex shape f = AskableInAnyOrder AnswersIndex shape TakesIndex f

  -- Says that one call was made for each index of the box, in some order from `f` on, and `at` has there what it
  -- returned.
  abbrev pub HasAnswersByIndex : List ℕ → F → (List ℕ → Option A) → Type 0
  HasAnswersByIndex shape f at = HasAnswers AnswersIndex shape f at

  -- Says that each call of `f` for an index of the box returns what `h` gives of the index, and leaves `f` as it is.
  abbrev pub AnswersByIndex : List ℕ → (List ℕ → A) → F → Type 0
  AnswersByIndex shape h f = (x : X) (y : A) (f' : F) → IsTrue (in_box shape (lengths_of x)) → Called g f (x, tt) y f' → (f' ≡ f) × (y ≡ h (lengths_of x))

-- Closures that are handed nothing.
module _ {F A : Type 0} (g : Mut F (Unit {0}) A) where
  -- Says that a call of `f`, whichever index it is for, may return `y` and leave the closure as `f'`.
  abbrev pub AnswersNothing : F → List ℕ → A → F → Type 0
  AnswersNothing f i y f' = Called g f tt y f'

  -- Says that `f` may be called, whichever index it is for.
  abbrev pub TakesNothing : F → List ℕ → Type 0
  TakesNothing f i = g.pre f tt

  -- Says that each call of `f` returns `x`, and leaves `f` as it is.
  abbrev pub AnswersAlike : A → F → Type 0
  AnswersAlike x f = (y : A) (f' : F) → Called g f tt y f' → (f' ≡ f) × (y ≡ x)

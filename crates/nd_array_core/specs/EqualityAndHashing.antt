-- Equality of arrays, and what a hasher is fed for an array.
use Rattle.std.specs.Prelude.{◌≡◌, ◌↔◌, ◌<◌, ℕ, Bool, ◌&&◌, nat_eq, List, [], ◌∷◌, ◌++◌, Some, slice_index, IsTrue}
use Rattle.std.specs.Cmp.{IsPartialEquivalence, IsEquivalence, partial_equiv_from_equiv, and_per, and_equiv, on_per, on_equiv, nat_eq_equiv, unsigned_Decides, first_so, second_so}
use Rattle.std.specs.Cmp.Lexicographic.{pointwise, lists_per, lists_equiv}
use Rattle.std.specs.Hash.{HashWrites, Alike, and-Alike, on_Alike, items_Alike, same_Alike, slice, usize}
use Rattle.std.specs.List.{fold, flat_map}
use Rattle.std.proofs.Common.{refl}
use Rattle.nd_elements.specs.ShapeAndElements.{Meaning}
use Rattle.nd_elements.specs.ShapeAndElements.{row_major_elements}

module _ {A : Type 0} where
  -- Returns whether `m` and `n` have the same lengths, and their elements in row-major order are equal one by one by
  -- the test `equal`.
  abbrev pub equal_meanings : (A → A → Bool) → Meaning A → Meaning A → Bool
  equal_meanings equal m n = pointwise nat_eq m.shape n.shape && pointwise equal (row_major_elements m) (row_major_elements n)

  -- Says that `m` and `n` have the same shape, and their elements at each index are equal by the test `equal`.
  abbrev pub EqualEverywhere : (A → A → Bool) → Meaning A → Meaning A → Type 0
  EqualEverywhere equal m n = (m.shape ≡ n.shape) × ((i : List ℕ) (x y : A) → m.at i ≡ Some x → n.at i ≡ Some y → IsTrue (equal x y))

  -- Says that two elements are equal by the test `equal` exactly where they are the same, as numbers are.
  abbrev pub EqualIsSame : (A → A → Bool) → Type 0
  EqualIsSame equal = (x y : A) → IsTrue (equal x y) ↔ (x ≡ y)

  -- Says that `m` and `n` have the same shape, and the same element at each row and column.
  abbrev pub SameCells : Meaning A → Meaning A → Type 0
  SameCells m n = (m.shape ≡ n.shape) × ((row column : ℕ) → row < slice_index m.shape 0 → column < slice_index m.shape 1 → m.at (row ∷ column ∷ []) ≡ n.at (row ∷ column ∷ []))

  -- Says that, if `m` has two axes, then `m` and `n` are equal everywhere exactly where they have the same shape and
  -- cells.
  abbrev pub EqualByCells : (A → A → Bool) → Meaning A → Meaning A → Type 0
  EqualByCells equal m n = (rows columns : ℕ) → m.shape ≡ rows ∷ columns ∷ [] → EqualEverywhere equal m n ↔ SameCells m n

  -- Returns what a hasher is fed for an array: its lengths as a slice, and then what `feed` gives of each element in
  -- row-major order.
  abbrev pub fed_meaning : (A → HashWrites) → Meaning A → HashWrites
  fed_meaning feed m = slice usize m.shape ++ flat_map feed (row_major_elements m)

  -- Says that `new` is the hasher `old` once it was fed what `feed` gives of each element, in row-major order.
  abbrev pub FeedsElements : {H : Type 0} → (H → List ℕ → H) → (A → HashWrites) → Meaning A → H → H → Type 0
  FeedsElements write feed m old new = new ≡ fold write old (flat_map feed (row_major_elements m))

  -- Equality of arrays is a partial equivalence if equality of elements is one.
  pub meanings_per : {E : A → A → Bool} → IsPartialEquivalence E → IsPartialEquivalence (equal_meanings E)
  meanings_per p = and_per (on_per (λ m. m.shape) (lists_per (partial_equiv_from_equiv nat_eq_equiv))) (on_per row_major_elements (lists_per p))

  -- Equality of arrays is an equivalence if equality of elements is one.
  pub meanings_equiv : {E : A → A → Bool} → IsEquivalence E → IsEquivalence (equal_meanings E)
  meanings_equiv e = and_equiv (on_equiv (λ m. m.shape) (lists_equiv nat_eq_equiv)) (on_equiv row_major_elements (lists_equiv e))

  module _ {E : A → A → Bool} {F : A → HashWrites} (alike : (x y : A) → IsTrue (E x y) → F x ≡ F y) where
    each_fed : (xs ys : List A) → IsTrue (pointwise E xs ys) → flat_map F xs ≡ flat_map F ys
    each_fed [] [] h = refl
    each_fed [] (y ∷ ys) h = absurd cc
    each_fed (x ∷ xs) [] h = absurd cc
    each_fed (x ∷ xs) (y ∷ ys) h = λ i. alike x y (first_so (E x y) (pointwise E xs ys) h) i ++ each_fed xs ys (second_so (E x y) (pointwise E xs ys) h) i

    elements_alike : Alike (λ (m n : Meaning A). pointwise E (row_major_elements m) (row_major_elements n)) (λ m. flat_map F (row_major_elements m))
    elements_alike = record { fed = λ m n. each_fed (row_major_elements m) (row_major_elements n) }

    -- Equal arrays are fed to a hasher alike, if equal elements are fed alike.
    pub meanings_alike : Alike (equal_meanings E) (fed_meaning F)
    meanings_alike = and-Alike (on_Alike (λ m. m.shape) (items_Alike (same_Alike usize unsigned_Decides))) elements_alike

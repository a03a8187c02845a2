-- An array where each call of a closure answers what a word says of its index; so of arrays of one to three axes, by their coordinates.
use Rattle.nd_array_core.proofs.NamesFromOtherCrates.{◌≡◌, ◌∙◌, ℕ, ◌<◌, true, List, [], ◌∷◌, refl, ap, sym, subst, Option, Some, Mut, lt-ltb, in_box, in_two_axes, AnswersIndex, AnswersThere, done_at_each, HasAnswersByIndex}
use Rattle.nd_array_core.specs.ElementsByCoordinates.{IsCell, IsCellOf1, IsCellOf3}
use Rattle.nd_array_core.specs.base.FromIteratorsAndClosures.{AnswersEach}

pub in_three_axes : (n m l i j k : ℕ) → i < n → j < m → k < l → in_box (n ∷ m ∷ l ∷ []) (i ∷ j ∷ k ∷ []) ≡ true
in_three_axes n m l i j k a b c = rw (lt-ltb i n a, lt-ltb j m b, lt-ltb k l c) refl

in_one_axis : (n i : ℕ) → i < n → in_box (n ∷ []) (i ∷ []) ≡ true
in_one_axis n i a = rw (lt-ltb i n a) refl

module _ {F X A : Type 0} (g : Mut F (X × Unit {0}) A) (lengths_of : X → List ℕ) (shape given : List ℕ) (same : shape ≡ given) (f : F) (at : List ℕ → Option A) (has : HasAnswersByIndex g lengths_of shape f at) where
  -- what stands at an index of the box is what is said of it
  answered_by : (IsAnswer : List ℕ → A → Type 0) → AnswersEach g lengths_of given IsAnswer f → (i : List ℕ) → in_box given i ≡ true → (y : A) × (at i ≡ Some y) × IsAnswer i y
  answered_by IsAnswer by i inbox =
      done_at_each shape (AnswersThere (AnswersIndex g lengths_of) at) f (λ j. (y : A) × (at j ≡ Some y) × IsAnswer j y) does has.1.0 has.1.1 has.0 has.1.2 i (ap (λ ns. in_box ns i) same ∙ inbox)
    where
      does : (j : List ℕ) (q : F) → in_box shape j ≡ true → AnswersThere (AnswersIndex g lengths_of) at f j q → (q ≡ f) × ((y : A) × (at j ≡ Some y) × IsAnswer j y)
      does j q inside call =
          let asked = call.2 in
          let there = ap (in_box given) asked.1 ∙ ap (λ ns. in_box ns j) (sym same) ∙ inside in
          let settled = by asked.0 call.0 q there asked.2 in
          (settled.0, (call.0, call.1, subst (λ i. IsAnswer i call.0) asked.1 settled.1))

  pub cells_settled : (rows columns : ℕ) (cell : ℕ → ℕ → A) → given ≡ rows ∷ columns ∷ [] → AnswersEach g lengths_of given (IsCell cell) f → (row column : ℕ) → row < rows → column < columns → at (row ∷ column ∷ []) ≡ Some (cell row column)
  cells_settled rows columns cell is by row column r c =
      let found = answered_by (IsCell cell) by (row ∷ column ∷ []) (ap (λ ns. in_box ns (row ∷ column ∷ [])) is ∙ in_two_axes rows columns row column r c) in
      found.1 ∙ ap Some found.2

  pub cells_settled_of_1 : (count : ℕ) (cell : ℕ → A) → given ≡ count ∷ [] → AnswersEach g lengths_of given (IsCellOf1 cell) f → (i : ℕ) → i < count → at (i ∷ []) ≡ Some (cell i)
  cells_settled_of_1 count cell is by i below =
      let found = answered_by (IsCellOf1 cell) by (i ∷ []) (ap (λ ns. in_box ns (i ∷ [])) is ∙ in_one_axis count i below) in
      found.1 ∙ ap Some found.2

  pub cells_settled_of_3 : (n m l : ℕ) (cell : ℕ → ℕ → ℕ → A) → given ≡ n ∷ m ∷ l ∷ [] → AnswersEach g lengths_of given (IsCellOf3 cell) f → (i j k : ℕ) → i < n → j < m → k < l → at (i ∷ j ∷ k ∷ []) ≡ Some (cell i j k)
  cells_settled_of_3 n m l cell is by i j k a b c =
      let found = answered_by (IsCellOf3 cell) by (i ∷ j ∷ k ∷ []) (ap (λ ns. in_box ns (i ∷ j ∷ k ∷ [])) is ∙ in_three_axes n m l i j k a b c) in
      found.1 ∙ ap Some found.2

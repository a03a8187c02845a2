-- What the definition of the text says of a table of two rows and three columns.
use Rattle.std.proofs.Common.{◌≡◌, ◌<◌, ◌+◌, ◌*◌, ◌∙◌, ◌∷◌, [], ℕ, List, Option, Some, None, false, codes, refl, arith}
use Rattle.std.specs.Fmt.{decimal, digits}
use Rattle.std.specs.Prelude.{slice_index, slice_index_or}
use Rattle.nd_array_core.specs.ArrayMeaning.{Meaning}
use Rattle.nd_array_core.specs.printing.ArrayTexts.{array_text}

abbrev text : Meaning ℕ → Option (List ℕ)
text = array_text (λ n. Some (decimal n)) false

-- a table of two rows and three columns with these cells
abbrev table : Option ℕ → Option ℕ → Option ℕ → Option ℕ → Option ℕ → Option ℕ → Meaning ℕ
table a b c d e f = record { shape = 2 ∷ 3 ∷ []; at = λ i. slice_index_or (a ∷ b ∷ c ∷ d ∷ e ∷ f ∷ []) (slice_index i 0 * 3 + slice_index i 1) None }

of_cells : (at : List ℕ → Option ℕ) → text (record { shape = 2 ∷ 3 ∷ []; at = at })
    ≡ text (table (at (0 ∷ 0 ∷ [])) (at (0 ∷ 1 ∷ [])) (at (0 ∷ 2 ∷ [])) (at (1 ∷ 0 ∷ [])) (at (1 ∷ 1 ∷ [])) (at (1 ∷ 2 ∷ [])))
of_cells at = refl

of_numbers : text (table (Some 1) (Some 2) (Some 3) (Some 4) (Some 5) (Some 6)) ≡ Some (codes "[[1, 2, 3],\n [4, 5, 6]]")
unfolding digits
of_numbers = refl

of_shape : (m : Meaning ℕ) → m.shape ≡ 2 ∷ 3 ∷ [] → text m ≡ text (record { shape = 2 ∷ 3 ∷ []; at = m.at })
of_shape m shape t = text (record { shape = shape t; at = m.at })

pub two_by_three : (m : Meaning ℕ) → m.shape ≡ 2 ∷ 3 ∷ []
    → ((row column : ℕ) → row < 2 → column < 3 → m.at (row ∷ column ∷ []) ≡ Some (row * 3 + column + 1))
    → text m ≡ Some (codes "[[1, 2, 3],\n [4, 5, 6]]")
two_by_three m shape cell =
    let a = cell 0 0 (omega arith) (omega arith) in
    let b = cell 0 1 (omega arith) (omega arith) in
    let c = cell 0 2 (omega arith) (omega arith) in
    let d = cell 1 0 (omega arith) (omega arith) in
    let e = cell 1 1 (omega arith) (omega arith) in
    let f = cell 1 2 (omega arith) (omega arith) in
    of_shape m shape ∙ of_cells m.at ∙ (λ t. text (table (a t) (b t) (c t) (d t) (e t) (f t))) ∙ of_numbers

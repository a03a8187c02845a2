-- The elements of an array with one axis.
use Rattle.nd_array_core.proofs.NamesFromOtherCrates.{◌≡◌, ℕ, ◌<◌, ◌∙◌, [], ◌∷◌, ap, Option, filter_map, range_with_len, flat_map_single, indexes_of, collected, Meaning, row_major_elements, collected_alike}
use Rattle.nd_array_core.proofs.along_lemmas.LanesAsViews.{line_listed}

-- The elements of one axis, in row-major order, are those by rising coordinate, as any map gives these.
pub in_order : {A : Type 0} (m : Meaning A) (n : ℕ) (at : ℕ → Option A) → m.shape ≡ n ∷ [] → ((k : ℕ) → k < n → m.at (k ∷ []) ≡ at k) → row_major_elements m ≡ collected at n
in_order m n at long same =
    ap (λ shape. filter_map m.at (indexes_of shape)) long
    ∙ ap (filter_map m.at) (flat_map_single (λ k. k ∷ []) (range_with_len 0 n))
    ∙ line_listed m.at n
    ∙ collected_alike (λ k. m.at (k ∷ [])) at n same

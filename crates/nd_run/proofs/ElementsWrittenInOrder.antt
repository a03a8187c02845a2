-- The elements of an array, written rank by rank.
use Rattle.std.proofs.Common.{◌≡◌, ℕ, ◌+◌, ◌<◌, ◌≤◌, List, [], ◌∷◌, ◌++◌, length, take, get_or, ap, sym, ◌∙◌, arith, subst, ℤ, Option, None, Some, append-nil}
use Rattle.std.specs.Prelude.{codes}
use Rattle.std.specs.Fmt.{signed_decimal}
use Rattle.std.proofs.lemmas.List.Concat.{flat_map-append}
use Rattle.nd_text.specs.declared.watched_streams.Watched.{Watched}
use Rattle.nd_text.specs.BufferedPrinting.{Puts}
use Rattle.nd_text.specs.NumberTexts.{values_text}
use Rattle.nd_text.proofs.PrintingInTurn.{puts_then}
use Rattle.std.specs.List.{filter_map, cons_option}
use Rattle.std.proofs.lemmas.List.{take_more, take_all}
use Rattle.std.proofs.lemmas.List.Elements.{filter_map-append}
use Rattle.nd_shape_and_slice.specs.ShapesAndIndexOrders.{size_of, index_at, indexes_of}
use Rattle.nd_shape_and_slice.proofs.RowMajorIndexList.{length-indexes_of, get_or-indexes_of}
use Rattle.nd_array_core.specs.ArrayMeaning.{Meaning}
use Rattle.nd_array_core.specs.ConcatenationAndSplit.{row_major_elements}

module _ {A : Type 0} (m : Meaning A) where
  one_more : (rank : ℕ) → rank < size_of m.shape → filter_map m.at (take (rank + 1) (indexes_of m.shape)) ≡ filter_map m.at (take rank (indexes_of m.shape)) ++ filter_map m.at (index_at m.shape rank ∷ [])
  one_more rank h =
      let on : rank < length (indexes_of m.shape) = omega (arith, h, length-indexes_of m.shape) in
      (ap (filter_map m.at) (take_more (indexes_of m.shape) rank [] on) ∙ filter_map-append m.at (take rank (indexes_of m.shape)) (get_or (indexes_of m.shape) rank [] ∷ []))
      ∙ ap (λ i. filter_map m.at (take rank (indexes_of m.shape)) ++ filter_map m.at (i ∷ [])) (get_or-indexes_of m.shape rank h)

-- the text of those of the ranks below this one was put
pub record IsWrittenBelow {W : Type 0} (contents : W → Option (List ℕ)) (m : Meaning ℤ) (old : Watched W) (held : List ℕ) (new : Watched W) (left : List ℕ) (index : List ℕ) (rank : ℕ) : Type 0 where
  pub as_long : length index ≡ length m.shape
  pub written : Puts contents old held new left (values_text (filter_map m.at (take rank (indexes_of m.shape))))

module _ {W : Type 0} (contents : W → Option (List ℕ)) (m : Meaning ℤ) (old : Watched W) (held : List ℕ) where
  pub written_some : (mid next new : Watched W) (one two left : List ℕ) (index : List ℕ) (rank : ℕ) (x : ℤ) → rank < size_of m.shape → length (index_at m.shape rank) ≡ length m.shape → m.at (index_at m.shape rank) ≡ Some x → Puts contents mid one next two (codes " ") → Puts contents next two new left (signed_decimal x) → IsWrittenBelow contents m old held mid one index rank → IsWrittenBelow contents m old held new left (index_at m.shape rank) (rank + 1)
  written_some mid next new one two left index rank x h long e space value so_far = record {
    as_long = long;
    written =
        let more : filter_map m.at (take (rank + 1) (indexes_of m.shape)) ≡ filter_map m.at (take rank (indexes_of m.shape)) ++ x ∷ [] = one_more m rank h ∙ ap (λ o. filter_map m.at (take rank (indexes_of m.shape)) ++ cons_option o []) e in
        let text : values_text (filter_map m.at (take (rank + 1) (indexes_of m.shape))) ≡ values_text (filter_map m.at (take rank (indexes_of m.shape))) ++ (codes " " ++ signed_decimal x) =
        (ap values_text more ∙ flat_map-append (λ v. codes " " ++ signed_decimal v) (filter_map m.at (take rank (indexes_of m.shape))) (x ∷ [])) ∙ ap (λ t. values_text (filter_map m.at (take rank (indexes_of m.shape))) ++ t) (append-nil (codes " " ++ signed_decimal x)) in
        subst (Puts contents old held new left) (sym text) (puts_then so_far.written (puts_then space value));
  }

  pub written_skip : (new : Watched W) (left : List ℕ) (index : List ℕ) (rank : ℕ) → rank < size_of m.shape → length (index_at m.shape rank) ≡ length m.shape → m.at (index_at m.shape rank) ≡ None → IsWrittenBelow contents m old held new left index rank → IsWrittenBelow contents m old held new left (index_at m.shape rank) (rank + 1)
  written_skip new left index rank h long e so_far = record {
    as_long = long;
    written =
        let same : filter_map m.at (take rank (indexes_of m.shape)) ≡ filter_map m.at (take (rank + 1) (indexes_of m.shape)) = sym (one_more m rank h ∙ (ap (λ o. filter_map m.at (take rank (indexes_of m.shape)) ++ cons_option o []) e ∙ append-nil (filter_map m.at (take rank (indexes_of m.shape))))) in
        subst (λ es. Puts contents old held new left (values_text es)) same so_far.written;
  }

  pub written_all : (new : Watched W) (left : List ℕ) (index : List ℕ) (rank : ℕ) → size_of m.shape ≤ rank → IsWrittenBelow contents m old held new left index rank → Puts contents old held new left (values_text (row_major_elements m))
  written_all new left index rank h all = subst (λ is. Puts contents old held new left (values_text (filter_map m.at is))) (take_all rank (indexes_of m.shape) (omega (arith, h, length-indexes_of m.shape))) all.written

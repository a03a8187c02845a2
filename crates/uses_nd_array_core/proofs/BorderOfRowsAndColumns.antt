-- The border of an image as its first and last row and its first and last column, which are filled one after another.
use Rattle.std.proofs.Common.{◌≡◌, ℕ, Bool, true, false, List, [], ◌∷◌, ℤ, pos, negsuc, ◌||◌, refl, sym, subst, ◌∙◌, arith}
use Rattle.std.specs.Prelude.{Option, Some, IsTrue}
use Rattle.std.proofs.lemmas.Bool.Decides.{nat_tests}
use Rattle.uses_nd_array_core.specs.RowsColumnsAndBorders.{in_row, in_column, is_border, FillsWhere, KeepsOthers}

-- the indexes that the four writes name
abbrev named_by_four : List ℕ → List ℕ → Bool
named_by_four ns i = ((in_row ns (pos 0) i || in_row ns (negsuc 0) i) || in_column ns (pos 0) i) || in_column ns (negsuc 0) i

border_is_four : (n m : ℕ) (i : List ℕ) → is_border (n ∷ m ∷ []) i ≡ named_by_four (n ∷ m ∷ []) i
border_is_four n m [] = refl
border_is_four n m (r ∷ []) = refl
border_is_four n m (r ∷ c ∷ []) = grind (arith, nat_tests)
border_is_four n m (r ∷ c ∷ d ∷ i) = refl

neither : (s t : Bool) → s || t ≡ false → (s ≡ false) × (t ≡ false)
neither true t h = cc
neither false t h = (refl, h)

module _ {A : Type 0} where
  -- what two writes, one after the other, keep, and what they fill
  kept_by_both : (s t : List ℕ → Bool) (a b c : List ℕ → Option A) → KeepsOthers s a b → KeepsOthers t b c → KeepsOthers (λ i. s i || t i) a c
  kept_by_both s t a b c first second i h =
      let parts = neither (s i) (t i) h in
      second i parts.1 ∙ first i parts.0

  filled_by_both : (s t : List ℕ → Bool) (x : A) (b c : List ℕ → Option A) → FillsWhere s x b → FillsWhere t x c → KeepsOthers t b c → FillsWhere (λ i. s i || t i) x c
  filled_by_both s t x b c first second kept i h = by_test (s i) (t i) refl refl
    where
      by_test : (u v : Bool) → s i ≡ u → t i ≡ v → c i ≡ Some x
      by_test u true e f = second i f
      by_test true false e f = kept i f ∙ first i e
      by_test false false e f = grind (arith, h, e, f)

  -- four writes, each of an image whose shape the one before left
  module _ (n m : ℕ) (ns n1 n2 n3 : List ℕ) (shape : ns ≡ n ∷ m ∷ []) (first : n1 ≡ ns) (second : n2 ≡ n1) (third : n3 ≡ n2) (a b c d e : List ℕ → Option A) where
    abbrev top : List ℕ → Bool
    top = in_row (n ∷ m ∷ []) (pos 0)

    abbrev bottom : List ℕ → Bool
    bottom = in_row (n ∷ m ∷ []) (negsuc 0)

    abbrev left : List ℕ → Bool
    left = in_column (n ∷ m ∷ []) (pos 0)

    abbrev right : List ℕ → Bool
    right = in_column (n ∷ m ∷ []) (negsuc 0)

    under : (W : List ℕ → Type 0) → W n1 → W (n ∷ m ∷ [])
    under W w = subst W (first ∙ shape) w

    under_2 : (W : List ℕ → Type 0) → W n2 → W (n ∷ m ∷ [])
    under_2 W w = under W (subst W second w)

    under_3 : (W : List ℕ → Type 0) → W n3 → W (n ∷ m ∷ [])
    under_3 W w = under_2 W (subst W third w)

    pub border_kept : KeepsOthers (in_row ns (pos 0)) a b → KeepsOthers (in_row n1 (negsuc 0)) b c → KeepsOthers (in_column n2 (pos 0)) c d → KeepsOthers (in_column n3 (negsuc 0)) d e → KeepsOthers (is_border ns) a e
    border_kept one two three four =
        let one = subst (λ ns. KeepsOthers (in_row ns (pos 0)) a b) shape one in
        let two = under (λ ns. KeepsOthers (in_row ns (negsuc 0)) b c) two in
        let three = under_2 (λ ns. KeepsOthers (in_column ns (pos 0)) c d) three in
        let four = under_3 (λ ns. KeepsOthers (in_column ns (negsuc 0)) d e) four in
        let rows = kept_by_both top bottom a b c one two in
        let most = kept_by_both (λ i. top i || bottom i) left a c d rows three in
        let all = kept_by_both (λ i. (top i || bottom i) || left i) right a d e most four in
        subst (λ ns. KeepsOthers (is_border ns) a e) (sym shape) (λ i h. all i (sym (border_is_four n m i) ∙ h))

    pub border_drawn : (x : A) → FillsWhere (in_row ns (pos 0)) x b → FillsWhere (in_row n1 (negsuc 0)) x c → KeepsOthers (in_row n1 (negsuc 0)) b c → FillsWhere (in_column n2 (pos 0)) x d → KeepsOthers (in_column n2 (pos 0)) c d → FillsWhere (in_column n3 (negsuc 0)) x e → KeepsOthers (in_column n3 (negsuc 0)) d e → FillsWhere (is_border ns) x e
    border_drawn x one two kept_2 three kept_3 four kept_4 =
        let one = subst (λ ns. FillsWhere (in_row ns (pos 0)) x b) shape one in
        let two = under (λ ns. FillsWhere (in_row ns (negsuc 0)) x c) two in
        let three = under_2 (λ ns. FillsWhere (in_column ns (pos 0)) x d) three in
        let four = under_3 (λ ns. FillsWhere (in_column ns (negsuc 0)) x e) four in
        let kept_2 = under (λ ns. KeepsOthers (in_row ns (negsuc 0)) b c) kept_2 in
        let kept_3 = under_2 (λ ns. KeepsOthers (in_column ns (pos 0)) c d) kept_3 in
        let kept_4 = under_3 (λ ns. KeepsOthers (in_column ns (negsuc 0)) d e) kept_4 in
        let rows = filled_by_both top bottom x b c one two kept_2 in
        let most = filled_by_both (λ i. top i || bottom i) left x c d rows three kept_3 in
        let all = filled_by_both (λ i. (top i || bottom i) || left i) right x d e most four kept_4 in
        subst (λ ns. FillsWhere (is_border ns) x e) (sym shape) (λ i h. all i (sym (border_is_four n m i) ∙ h))

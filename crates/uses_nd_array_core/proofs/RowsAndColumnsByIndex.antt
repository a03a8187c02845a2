-- Rows and columns of an image, each named by a list of one index and one whole axis.
use Rattle.std.proofs.Common.{◌≡◌, ℕ, ◌<◌, Bool, true, false, List, [], ◌∷◌, ℤ, pos, refl, ap, sym, subst, ◌∙◌}
use Rattle.std.specs.Prelude.{Option, Some, None, nat_eq, nat_lt, is_some, slice_index}
use Rattle.std.specs.Option.{unwrap_or}
use Rattle.std.proofs.lemmas.Bool.{and_parts, and_from, eqb-true, eq-eqb, lt-ltb, ltb-true}
use Rattle.nd_array_core.specs.Prelude.{SliceInfoElem}
use Rattle.nd_array_core.specs.SliceInfoElem.TheVariants.{Slice as Part, Index}
use Rattle.nd_array_core.specs.ShapesAndIndexOrders.{in_box}
use Rattle.nd_array_core.specs.SliceInfo.{coordinate_on, shape_after, index_before}
use Rattle.nd_array_core.specs.scoped.ViewTasks.{OthersKeep}
use Rattle.uses_nd_array_core.specs.RowsColumnsAndBorders.{is_at, in_row, in_column}
use Rattle.uses_nd_array_core.proofs.EverySecondColumn.{whole_length, itself}

abbrev pub row_of : ℤ → List SliceInfoElem
row_of k = Index k ∷ Part (pos 0) None (pos 1) ∷ []

abbrev pub column_of : ℤ → List SliceInfoElem
column_of k = Part (pos 0) None (pos 1) ∷ Index k ∷ []

some_of : (o : Option ℕ) → is_some o ≡ true → (r : ℕ) × (o ≡ Some r)
some_of None h = cc
some_of (Some r) h = (r, refl)

-- ---- a part with one axis of length m, whose coordinates name the indexes of a mask
module _ {A : Type 0} (m : ℕ) (shape : List ℕ) (source : List ℕ → List ℕ) (line : ℕ → List ℕ) (same_shape : shape ≡ m ∷ []) (same_source : (j : ℕ) → source (j ∷ []) ≡ line j) (mask : List ℕ → Bool) (new : List ℕ → Option A) where
  mask_filled : (x : A) → ((i : List ℕ) → mask i ≡ true → (j : ℕ) × (j < m) × (line j ≡ i)) → ((i : List ℕ) → in_box shape i ≡ true → new (source i) ≡ Some x) → (i : List ℕ) → mask i ≡ true → new i ≡ Some x
  mask_filled x hit filled i h =
      let at = hit i h in
      let inside : in_box shape (at.0 ∷ []) ≡ true = ap (λ s. in_box s (at.0 ∷ [])) same_shape ∙ and_from (nat_lt at.0 m) true (lt-ltb at.0 m at.1) refl in
      ap new (sym (same_source at.0 ∙ at.2)) ∙ filled (at.0 ∷ []) inside

  mask_kept : (old : List ℕ → Option A) → ((c : ℕ) → nat_lt c m ≡ true → mask (line c) ≡ true) → OthersKeep shape source old new → (i : List ℕ) → mask i ≡ false → new i ≡ old i
  mask_kept old hit kept i h = kept i (λ j inside named. missed j (ap (λ s. in_box s j) (sym same_shape) ∙ inside) named)
    where
      missed : (j : List ℕ) → in_box (m ∷ []) j ≡ true → source j ≡ i → ⊥
      missed [] inside named = cc
      missed (c ∷ []) inside named =
          let below : nat_lt c m ≡ true = (and_parts (nat_lt c m) true inside).0 in
          let both : false ≡ true = sym h ∙ ap mask (sym named ∙ same_source c) ∙ hit c below in
          cc
      missed (c ∷ d ∷ j) inside named = let no : false ≡ true = (and_parts (nat_lt c m) false inside).1 in cc

-- ---- a row
module _ (n m : ℕ) (k : ℤ) where
  row_shape : shape_after (n ∷ m ∷ []) (row_of k) ≡ m ∷ []
  row_shape = ap (λ l. l ∷ []) (whole_length m)

  module _ (r : ℕ) (named : coordinate_on n k ≡ Some r) where
    row_at : (j : ℕ) → index_before (n ∷ m ∷ []) (row_of k) (j ∷ []) ≡ r ∷ j ∷ []
    row_at j = λ t. unwrap_or (named t) 0 ∷ itself m j t ∷ []

    row_hit : (i : List ℕ) → in_row (n ∷ m ∷ []) k i ≡ true → (j : ℕ) × (j < m) × (r ∷ j ∷ [] ≡ i)
    row_hit [] h = cc
    row_hit (a ∷ []) h = cc
    row_hit (a ∷ b ∷ []) h =
        let both = and_parts (is_at (coordinate_on n k) a) (nat_lt b m) h in
        let same : nat_eq a r ≡ true = sym (ap (λ o. is_at o a) named) ∙ both.0 in
        (b, ltb-true b m both.1, ap (λ a. a ∷ b ∷ []) (sym (eqb-true a r same)))
    row_hit (a ∷ b ∷ c ∷ i) h = cc

    row_named : (c : ℕ) → nat_lt c m ≡ true → in_row (n ∷ m ∷ []) k (r ∷ c ∷ []) ≡ true
    row_named c below = and_from (is_at (coordinate_on n k) r) (nat_lt c m) (ap (λ o. is_at o r) named ∙ eq-eqb r r refl) below

-- ---- a column
module _ (n m : ℕ) (k : ℤ) where
  column_shape : shape_after (n ∷ m ∷ []) (column_of k) ≡ n ∷ []
  column_shape = ap (λ l. l ∷ []) (whole_length n)

  module _ (r : ℕ) (named : coordinate_on m k ≡ Some r) where
    column_at : (j : ℕ) → index_before (n ∷ m ∷ []) (column_of k) (j ∷ []) ≡ j ∷ r ∷ []
    column_at j = λ t. itself n j t ∷ unwrap_or (named t) 0 ∷ []

    column_hit : (i : List ℕ) → in_column (n ∷ m ∷ []) k i ≡ true → (j : ℕ) × (j < n) × (j ∷ r ∷ [] ≡ i)
    column_hit [] h = cc
    column_hit (a ∷ []) h = cc
    column_hit (a ∷ b ∷ []) h =
        let both = and_parts (nat_lt a n) (is_at (coordinate_on m k) b) h in
        let same : nat_eq b r ≡ true = sym (ap (λ o. is_at o b) named) ∙ both.1 in
        (a, ltb-true a n both.0, ap (λ b. a ∷ b ∷ []) (sym (eqb-true b r same)))
    column_hit (a ∷ b ∷ c ∷ i) h = cc

    column_named : (c : ℕ) → nat_lt c n ≡ true → in_column (n ∷ m ∷ []) k (c ∷ r ∷ []) ≡ true
    column_named c below = and_from (nat_lt c n) (is_at (coordinate_on m k) r) below (ap (λ o. is_at o r) named ∙ eq-eqb r r refl)

-- ---- what a caller learns of a filled row, and of a filled column
row_filled : {A : Type 0} (n m : ℕ) (k : ℤ) (x : A) (new : List ℕ → Option A) → is_some (coordinate_on n k) ≡ true
    → ((i : List ℕ) → in_box (shape_after (n ∷ m ∷ []) (row_of k)) i ≡ true → new (index_before (n ∷ m ∷ []) (row_of k) i) ≡ Some x)
    → (i : List ℕ) → in_row (n ∷ m ∷ []) k i ≡ true → new i ≡ Some x
row_filled n m k x new there filled =
    let r = some_of (coordinate_on n k) there in
    mask_filled m (shape_after (n ∷ m ∷ []) (row_of k)) (index_before (n ∷ m ∷ []) (row_of k)) (λ j. r.0 ∷ j ∷ []) (row_shape n m k) (row_at n m k r.0 r.1) (in_row (n ∷ m ∷ []) k) new x (row_hit n m k r.0 r.1) filled

column_filled : {A : Type 0} (n m : ℕ) (k : ℤ) (x : A) (new : List ℕ → Option A) → is_some (coordinate_on m k) ≡ true
    → ((i : List ℕ) → in_box (shape_after (n ∷ m ∷ []) (column_of k)) i ≡ true → new (index_before (n ∷ m ∷ []) (column_of k) i) ≡ Some x)
    → (i : List ℕ) → in_column (n ∷ m ∷ []) k i ≡ true → new i ≡ Some x
column_filled n m k x new there filled =
    let r = some_of (coordinate_on m k) there in
    mask_filled n (shape_after (n ∷ m ∷ []) (column_of k)) (index_before (n ∷ m ∷ []) (column_of k)) (λ j. j ∷ r.0 ∷ []) (column_shape n m k) (column_at n m k r.0 r.1) (in_column (n ∷ m ∷ []) k) new x (column_hit n m k r.0 r.1) filled

row_kept : {A : Type 0} (n m : ℕ) (k : ℤ) (old new : List ℕ → Option A) → is_some (coordinate_on n k) ≡ true
    → OthersKeep (shape_after (n ∷ m ∷ []) (row_of k)) (index_before (n ∷ m ∷ []) (row_of k)) old new
    → (i : List ℕ) → in_row (n ∷ m ∷ []) k i ≡ false → new i ≡ old i
row_kept n m k old new there kept =
    let r = some_of (coordinate_on n k) there in
    mask_kept m (shape_after (n ∷ m ∷ []) (row_of k)) (index_before (n ∷ m ∷ []) (row_of k)) (λ j. r.0 ∷ j ∷ []) (row_shape n m k) (row_at n m k r.0 r.1) (in_row (n ∷ m ∷ []) k) new old (row_named n m k r.0 r.1) kept

column_kept : {A : Type 0} (n m : ℕ) (k : ℤ) (old new : List ℕ → Option A) → is_some (coordinate_on m k) ≡ true
    → OthersKeep (shape_after (n ∷ m ∷ []) (column_of k)) (index_before (n ∷ m ∷ []) (column_of k)) old new
    → (i : List ℕ) → in_column (n ∷ m ∷ []) k i ≡ false → new i ≡ old i
column_kept n m k old new there kept =
    let r = some_of (coordinate_on m k) there in
    mask_kept n (shape_after (n ∷ m ∷ []) (column_of k)) (index_before (n ∷ m ∷ []) (column_of k)) (λ j. j ∷ r.0 ∷ []) (column_shape n m k) (column_at n m k r.0 r.1) (in_column (n ∷ m ∷ []) k) new old (column_named n m k r.0 r.1) kept

-- what holds of an image of these lengths and of this list holds of one whose shape and list equal them
abbrev FillsRow : {A : Type 0} → ℤ → A → (List ℕ → Option A) → List ℕ → List SliceInfoElem → Type 0
FillsRow k x new ns es = is_some (coordinate_on (slice_index ns 0) k) ≡ true → ((i : List ℕ) → in_box (shape_after ns es) i ≡ true → new (index_before ns es i) ≡ Some x) → (i : List ℕ) → in_row ns k i ≡ true → new i ≡ Some x

pub row_filled_of : {A : Type 0} (n m : ℕ) (k : ℤ) (ns : List ℕ) (es : List SliceInfoElem) (x : A) (new : List ℕ → Option A) → ns ≡ n ∷ m ∷ [] → es ≡ row_of k → FillsRow k x new ns es
row_filled_of n m k ns es x new shape list = subst (λ (ns : List ℕ). FillsRow k x new ns es) (sym shape) (subst (λ (es : List SliceInfoElem). FillsRow k x new (n ∷ m ∷ []) es) (sym list) (row_filled n m k x new))

abbrev FillsColumn : {A : Type 0} → ℤ → A → (List ℕ → Option A) → List ℕ → List SliceInfoElem → Type 0
FillsColumn k x new ns es = is_some (coordinate_on (slice_index ns 1) k) ≡ true → ((i : List ℕ) → in_box (shape_after ns es) i ≡ true → new (index_before ns es i) ≡ Some x) → (i : List ℕ) → in_column ns k i ≡ true → new i ≡ Some x

pub column_filled_of : {A : Type 0} (n m : ℕ) (k : ℤ) (ns : List ℕ) (es : List SliceInfoElem) (x : A) (new : List ℕ → Option A) → ns ≡ n ∷ m ∷ [] → es ≡ column_of k → FillsColumn k x new ns es
column_filled_of n m k ns es x new shape list = subst (λ (ns : List ℕ). FillsColumn k x new ns es) (sym shape) (subst (λ (es : List SliceInfoElem). FillsColumn k x new (n ∷ m ∷ []) es) (sym list) (column_filled n m k x new))

abbrev KeepsRow : {A : Type 0} → ℤ → (List ℕ → Option A) → (List ℕ → Option A) → List ℕ → List SliceInfoElem → Type 0
KeepsRow k old new ns es = is_some (coordinate_on (slice_index ns 0) k) ≡ true → OthersKeep (shape_after ns es) (index_before ns es) old new → (i : List ℕ) → in_row ns k i ≡ false → new i ≡ old i

pub row_kept_of : {A : Type 0} (n m : ℕ) (k : ℤ) (ns : List ℕ) (es : List SliceInfoElem) (old new : List ℕ → Option A) → ns ≡ n ∷ m ∷ [] → es ≡ row_of k → KeepsRow k old new ns es
row_kept_of n m k ns es old new shape list = subst (λ (ns : List ℕ). KeepsRow k old new ns es) (sym shape) (subst (λ (es : List SliceInfoElem). KeepsRow k old new (n ∷ m ∷ []) es) (sym list) (row_kept n m k old new))

abbrev KeepsColumn : {A : Type 0} → ℤ → (List ℕ → Option A) → (List ℕ → Option A) → List ℕ → List SliceInfoElem → Type 0
KeepsColumn k old new ns es = is_some (coordinate_on (slice_index ns 1) k) ≡ true → OthersKeep (shape_after ns es) (index_before ns es) old new → (i : List ℕ) → in_column ns k i ≡ false → new i ≡ old i

pub column_kept_of : {A : Type 0} (n m : ℕ) (k : ℤ) (ns : List ℕ) (es : List SliceInfoElem) (old new : List ℕ → Option A) → ns ≡ n ∷ m ∷ [] → es ≡ column_of k → KeepsColumn k old new ns es
column_kept_of n m k ns es old new shape list = subst (λ (ns : List ℕ). KeepsColumn k old new ns es) (sym shape) (subst (λ (es : List SliceInfoElem). KeepsColumn k old new (n ∷ m ∷ []) es) (sym list) (column_kept n m k old new))

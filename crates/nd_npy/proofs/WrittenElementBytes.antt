-- The bytes of elements that an iterator gives, one after another.
use Rattle.std.proofs.Common.{◌≡◌, ◌∙◌, ℕ, zero, suc, List, [], ◌∷◌, ◌++◌, sym, ap, arith, subst, All, append_assoc, append-nil}
use Rattle.std.specs.Prelude.{Option, None, Some, Result, OnOk}
use Rattle.std.specs.List.{flat_map}
use denote.Ref.{Bor}
use Rattle.nd_npy_text.specs.declared.item_type.ByteOrder.{ByteOrder}
use Rattle.nd_npy.specs.declared.item.NpyItem as npy_item
use Rattle.nd_npy.specs.WrittenElements.{GivesElements, WritesAll}

module _ {A : Type 0} (x : A) (left items : List A) (is : items ≡ x ∷ left) where
  written_more : (f : A → List ℕ) (bytes new whole : List ℕ) → new ≡ bytes ++ f x → bytes ++ flat_map f items ≡ whole → new ++ flat_map f left ≡ whole
  written_more f bytes new whole step kept =
      ap (λ b. b ++ flat_map f left) step ∙ append_assoc bytes (f x) (flat_map f left) ∙ ap (λ l. bytes ++ flat_map f l) (sym is) ∙ kept

  fits_more : (P : A → Type 0) → P x → All P left → All P items
  fits_more P one rest = subst (All P) (sym is) all
    where
      all : All P (x ∷ left)
      all zero d h = one
      all (suc k) d h = rest k d (omega (arith, h))

none_left : {A : Type 0} (P : A → Type 0) (items : List A) → items ≡ [] → All P items
none_left P items is = subst (All P) (sym is) none
  where
    none : All P []
    none k d h = absurd (omega (arith, h))

-- an iterator, which began at `items`, and the bytes to which those of its elements are appended, which began with `old`
module _ {A I : Type 0} (item : npy_item.Ghosts A) (order : ByteOrder) (gives : I → Option (Bor A) → I → Type 0) (items : I) (old : List ℕ) where
  -- the bytes so far, and those of the elements that are left, are all bytes; what fits of those left fits of all
  abbrev pub StillToWrite : I → List ℕ → Type 0
  StillToWrite it bytes = (rest : I → List A) → GivesElements gives rest
      → (bytes ++ flat_map (item.bytes_of order) (rest it) ≡ old ++ flat_map (item.bytes_of order) (rest items)) × (All item.fits (rest it) → All item.fits (rest items))

  pub one_written : (it later : I) (x : Bor A) (bytes new : List ℕ) → gives it (Some x) later → new ≡ bytes ++ item.bytes_of order x.now → item.fits x.now → StillToWrite it bytes → StillToWrite later new
  one_written it later x bytes new given step fits kept = λ rest steps.
      let is = steps it (Some x) later given in
      let before = kept rest steps in
      (written_more x.now (rest later) (rest it) is (item.bytes_of order) bytes new _ step before.0, λ all. before.1 (fits_more x.now (rest later) (rest it) is item.fits fits all))

  pub all_written : (it later : I) (bytes : List ℕ) → gives it None later → StillToWrite it bytes → (rest : I → List A) → GivesElements gives rest → WritesAll item order (rest items) old bytes
  all_written it later bytes given kept rest steps =
      let none = (steps it None later given).0 in
      let before = kept rest steps in
      (sym (append-nil bytes) ∙ ap (λ l. bytes ++ flat_map (item.bytes_of order) l) (sym none) ∙ before.0, before.1 (none_left item.fits (rest it) none))

-- what is said of all bytes and all elements, if the call succeeded, under another name of the elements
pub all_in_turn : {A X E : Type 0} (item : npy_item.Ghosts A) (order : ByteOrder) (old new : List ℕ) (given elements : List A) → given ≡ elements → (r : Result X E) → OnOk r (WritesAll item order given old new) → OnOk r (WritesAll item order elements old new)
all_in_turn item order old new given elements same r all = subst (λ l. OnOk r (WritesAll item order l old new)) same all

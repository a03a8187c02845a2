-- What is read where two or four bytes stand in front of the others.
use Rattle.std.proofs.Common.{◌≡◌, ◌∙◌, ◌+◌, ◌-◌, ◌*◌, ◌≤◌, ℕ, true, false, cond, List, [], ◌∷◌, length, take, drop, take_all, get_or, sym, ap, arith}
use Rattle.std.specs.Prelude.{Result, Ok, Err}
use Rattle.nd_npy_text.specs.declared.errors.HeaderFlaw.TheVariants.{OtherItems}
use Rattle.nd_npy_text.specs.declared.item_type.ItemType.{ItemType}
use Rattle.nd_npy_text.specs.HeaderTokens.{HeaderStop, ◌>>=◌, npy_number_here}
use Rattle.nd_npy_text.specs.HeaderReading.{size_in}
use Rattle.nd_npy_text.specs.ItemTypes.{item_type_named}
use Rattle.nd_npy_text.specs.ItemTypeReading.{is_kind_letter, letter_flaw, or_other_items, item_word_in}

-- the bytes behind the first `n`
abbrev behind : ℕ → List ℕ → List ℕ
behind n bs = take (length bs - n) (drop n bs)

-- the length of a dict, in two bytes and in four
pub two_read : (bs : List ℕ) → 2 ≤ length bs → size_in false bs ≡ Ok (get_or bs 0 0 + get_or bs 1 0 * 256, behind 2 bs)
two_read [] some = absurd (omega (arith, some))
two_read (a ∷ []) some = absurd (omega (arith, some))
two_read (a ∷ b ∷ bs) some = ap (λ (l : List ℕ). Ok (a + b * 256, l)) (sym (take_all (length (a ∷ b ∷ bs) - 2) bs (omega arith)))

pub four_read : (bs : List ℕ) → 4 ≤ length bs → size_in true bs ≡ Ok (get_or bs 0 0 + get_or bs 1 0 * 256 + get_or bs 2 0 * 65536 + get_or bs 3 0 * 16777216, behind 4 bs)
four_read [] some = absurd (omega (arith, some))
four_read (a ∷ []) some = absurd (omega (arith, some))
four_read (a ∷ b ∷ []) some = absurd (omega (arith, some))
four_read (a ∷ b ∷ c ∷ []) some = absurd (omega (arith, some))
four_read (a ∷ b ∷ c ∷ d ∷ bs) some = ap (λ (l : List ℕ). Ok (a + b * 256 + c * 65536 + d * 16777216, l)) (sym (take_all (length (a ∷ b ∷ c ∷ d ∷ bs) - 4) bs (omega arith)))

-- the mark, the letter and the size of an item type
pub word_read : (bs : List ℕ) → 2 ≤ length bs → is_kind_letter (get_or bs 1 0) ≡ true → item_word_in bs ≡ (npy_number_here OtherItems (behind 2 bs) >>= λ n. or_other_items (length bs) (item_type_named (get_or bs 0 0) (get_or bs 1 0) n.0) n.1)
word_read [] some kind = absurd (omega (arith, some))
word_read (mark ∷ []) some kind = absurd (omega (arith, some))
word_read (mark ∷ letter ∷ bs) some kind =
    let rest : Result (ℕ × List ℕ) HeaderStop → Result (ItemType × List ℕ) HeaderStop = λ r. r >>= λ n. or_other_items (length (mark ∷ letter ∷ bs)) (item_type_named mark letter n.0) n.1 in
    ap (λ t. cond t (rest (npy_number_here OtherItems bs)) (Err (length (mark ∷ letter ∷ bs), letter_flaw letter))) kind ∙ ap (λ l. rest (npy_number_here OtherItems l)) (sym (take_all (length (mark ∷ letter ∷ bs) - 2) bs (omega arith)))

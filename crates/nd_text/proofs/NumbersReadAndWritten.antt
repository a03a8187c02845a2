-- The number that is read is the one that the word writes, and the one that it writes is read.
use Rattle.std.proofs.Common.{◌≡◌, ℕ, ◌<◌, ◌≤◌, ◌^◌, Bool, true, false, cond, eqb, ltb, leb, not, ◌&&◌, List, [], ◌∷◌, length, ℤ, pos, neg_ℤ, Option, Some, None, refl, sym, ap, subst, ◌∙◌, inl, inr}
use Rattle.std.specs.List.{list_all}
use Rattle.std.specs.Char.{is_ascii_digit}
use Rattle.std.specs.Str.Parse.{digits_value}
use Rattle.std.proofs.lemmas.Bool.{eqb-true, ne_eqb, ltb-true, lt-ltb, leb-true, le-leb, and_parts}
use Rattle.std.proofs.lemmas.Option.{cond_some}
use Rattle.nd_text.specs.DecimalNumerals.{is_numeral, IsNumeral, IsNat, IsInt, nat_of, int_of, without_minus, has_minus, signed_of}

-- the same, where the answer is a step further
pub some_under : {X : Type 0} (t : Bool) (r : Option X) (y : X) → cond t r None ≡ Some y → (t ≡ true) × (r ≡ Some y)
some_under true r y e = (refl, e)
some_under false r y e = absurd cc

pub nat_takes : (word : List ℕ) (n : ℕ) → nat_of word ≡ Some n → IsNat word n
unfolding nat_of
nat_takes word n e =
    let v = digits_value 10 word in
    let h = cond_some (is_numeral word && ltb v (2 ^ 64)) v n e in
    let both = and_parts (is_numeral word) (ltb v (2 ^ 64)) h.0 in
    ((both.0, sym h.1), subst (λ (m : ℕ). m < 2 ^ 64) h.1 (ltb-true v (2 ^ 64) both.1))

pub nat_again : (word : List ℕ) (n : ℕ) → IsNat word n → nat_of word ≡ Some n
unfolding nat_of
nat_again word n h =
    let fits : ltb (digits_value 10 word) (2 ^ 64) ≡ true = lt-ltb (digits_value 10 word) (2 ^ 64) (subst (λ (m : ℕ). m < 2 ^ 64) h.0.1 h.1) in
    rw (h.0.0, fits) (ap Some (sym h.0.1))

signed_by : (t : Bool) (b : ℕ) (bs : List ℕ) (z : ℤ) → eqb b 45 ≡ t → cond (is_numeral (cond t bs (b ∷ bs))) (signed_of t (digits_value 10 (cond t bs (b ∷ bs)))) None ≡ Some z → IsInt (b ∷ bs) z
signed_by true b bs z is e =
    let v = digits_value 10 bs in
    let h = some_under (is_numeral bs) (cond (leb v (2 ^ 63)) (Some (neg_ℤ (pos v))) None) z e in
    let g = cond_some (leb v (2 ^ 63)) (neg_ℤ (pos v)) z h.1 in
    inr (bs, v, ap (λ (c : ℕ). c ∷ bs) (eqb-true b 45 is), (h.0, refl), leb-true v (2 ^ 63) g.0, sym g.1)
signed_by false b bs z is e =
    let v = digits_value 10 (b ∷ bs) in
    let h = some_under (is_numeral (b ∷ bs)) (cond (ltb v (2 ^ 63)) (Some (pos v)) None) z e in
    let g = cond_some (ltb v (2 ^ 63)) (pos v) z h.1 in
    inl (v, (h.0, refl), ltb-true v (2 ^ 63) g.0, sym g.1)

pub int_takes : (word : List ℕ) (z : ℤ) → int_of word ≡ Some z → IsInt word z
unfolding int_of
int_takes [] z e = absurd cc
int_takes (b ∷ bs) z e = signed_by (eqb b 45) b bs z refl e

-- a numeral has no minus sign
digit_first : (b : ℕ) → is_ascii_digit b ≡ true → b ≡ 45 → ⊥
digit_first b e is = let no_digit : is_ascii_digit 45 ≡ true = subst (λ (c : ℕ). is_ascii_digit c ≡ true) is e in absurd cc

no_minus : (word : List ℕ) → is_numeral word ≡ true → has_minus word ≡ false
no_minus [] e = refl
no_minus (b ∷ bs) e =
    let all = (and_parts (not (eqb (length (b ∷ bs)) 0)) (list_all is_ascii_digit (b ∷ bs)) e).1 in
    ne_eqb b 45 (digit_first b (and_parts (is_ascii_digit b) (list_all is_ascii_digit bs) all).0)

kept : (word : List ℕ) → has_minus word ≡ false → without_minus word ≡ word
kept [] e = refl
kept (b ∷ bs) e = rw e refl

plain_again : (word : List ℕ) (n : ℕ) → IsNumeral word n → n < 2 ^ 63 → int_of word ≡ Some (pos n)
unfolding int_of
plain_again word n h lt =
    let none : has_minus word ≡ false = no_minus word h.0 in
    let same : without_minus word ≡ word = kept word none in
    let fits : ltb (digits_value 10 word) (2 ^ 63) ≡ true = lt-ltb (digits_value 10 word) (2 ^ 63) (subst (λ (m : ℕ). m < 2 ^ 63) h.1 lt) in
    rw (same, none, h.0, fits) (ap (λ (m : ℕ). Some (pos m)) (sym h.1))

minus_again : (digits : List ℕ) (n : ℕ) → IsNumeral digits n → n ≤ 2 ^ 63 → int_of (45 ∷ digits) ≡ Some (neg_ℤ (pos n))
unfolding int_of
minus_again digits n h le =
    let fits : leb (digits_value 10 digits) (2 ^ 63) ≡ true = le-leb (digits_value 10 digits) (2 ^ 63) (subst (λ (m : ℕ). m ≤ 2 ^ 63) h.1 le) in
    rw (h.0, fits) (ap (λ (m : ℕ). Some (neg_ℤ (pos m))) (sym h.1))

pub int_again : (word : List ℕ) (z : ℤ) → IsInt word z → int_of word ≡ Some z
int_again word z (inl h) = plain_again word h.0 h.1 h.2 ∙ ap Some (sym h.3)
int_again word z (inr h) = ap int_of h.2 ∙ minus_again h.0 h.1 h.3 h.4 ∙ ap Some (sym h.5)

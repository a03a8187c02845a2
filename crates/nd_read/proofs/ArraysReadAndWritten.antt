-- The numbers, the list and the array that are read of words are what they write, and what they write is read.
use Rattle.std.proofs.Common.{◌≡◌, ℕ, ◌≤◌, ◌^◌, true, cond, ltb, leb, List, ◌++◌, length, length-append, ℤ, Some, None, refl, sym, ap, subst, ◌∙◌, append_assoc, arith}
use Rattle.std.proofs.lemmas.Bool.{ltb-true, lt-ltb, leb-true, le-leb}
use Rattle.std.proofs.lemmas.Option.{cond_some}
use Rattle.nd_shape_and_slice.specs.ShapesAndIndexOrders.{HasCheckedSize, nonzero_product, size_of}
use Rattle.nd_text.specs.DecimalNumerals.{IsNat, IsInt, nat_of, int_of}
use Rattle.nd_read.specs.LineGrammar.{IsWord, IsList, array_of, AreParts, IsArray}
use Rattle.nd_read.specs.LineReaders.{◌>>=◌, first_as, many_at, counted_at, list_at, lengths_at, checked_size, parts_at, array_at, TakesWords}
use Rattle.nd_text.proofs.NumbersReadAndWritten.{some_under, nat_takes, nat_again, int_takes, int_again}
use Rattle.nd_read.proofs.ReadersMatchGrammar.{bind_some, some_pair, Takes, Reads, few_parts, regrouped, word_reads, made_reads, many_take, many_again, many_length, counted_reads}

pub nat_reads : {n : ℕ} → Reads n (first_as nat_of) (IsWord IsNat)
nat_reads = word_reads nat_of IsNat nat_takes nat_again

pub int_reads : {n : ℕ} → Reads n (first_as int_of) (IsWord IsInt)
int_reads = word_reads int_of IsInt int_takes int_again

pub list_reads : {n : ℕ} → Reads n list_at IsList
list_reads = counted_reads nat_reads

lengths_take : (words : List (List ℕ)) (ns : List ℕ) (rest : List (List ℕ)) → lengths_at words ≡ Some (ns, rest) → (list_at words ≡ Some (ns, rest)) × (length ns ≤ 32)
unfolding lengths_at counted_at
lengths_take words ns rest e =
    let a = bind_some (first_as nat_of words) (λ count. cond (leb count.0 32) (many_at (first_as nat_of) count.0 count.1) None) (ns, rest) e in
    let few = some_under (leb a.0.0 32) (many_at (first_as nat_of) a.0.0 a.0.1) (ns, rest) a.2 in
    (rw a.1 few.1, subst (λ (k : ℕ). k ≤ 32) (sym (many_length (first_as nat_of) a.0.0 a.0.1 ns rest few.1)) (leb-true a.0.0 32 few.0))

lengths_again : (words : List (List ℕ)) (ns : List ℕ) (rest : List (List ℕ)) → list_at words ≡ Some (ns, rest) → length ns ≤ 32 → lengths_at words ≡ Some (ns, rest)
unfolding lengths_at counted_at
lengths_again words ns rest e few =
    let a = bind_some (first_as nat_of words) (λ count. many_at (first_as nat_of) count.0 count.1) (ns, rest) e in
    let fits : leb a.0.0 32 ≡ true = le-leb a.0.0 32 (subst (λ (k : ℕ). k ≤ 32) (many_length (first_as nat_of) a.0.0 a.0.1 ns rest a.2) few) in
    rw (a.1, fits) a.2

pub parts_take : Takes parts_at AreParts
unfolding parts_at
parts_take words array rest e =
    let a = bind_some (lengths_at words) (λ ls. checked_size ls.0 >>= λ size. many_at (first_as int_of) size ls.1 >>= λ vs. Some ((ls.0, vs.0), vs.1)) (array, rest) e in
    let b = bind_some (checked_size a.0.0) (λ size. many_at (first_as int_of) size a.0.1 >>= λ vs. Some ((a.0.0, vs.0), vs.1)) (array, rest) a.2 in
    let d = bind_some (many_at (first_as int_of) b.0 a.0.1) (λ vs. Some ((a.0.0, vs.0), vs.1)) (array, rest) b.2 in
    let few = lengths_take words a.0.0 a.0.1 a.1 in
    let ls = (list_reads {n = 0}).takes words a.0.0 a.0.1 few.0 in
    let size = cond_some (ltb (nonzero_product a.0.0) (2 ^ 63)) (size_of a.0.0) b.0 b.1 in
    let vs = many_take (λ ws. true) (first_as int_of) (IsWord IsInt) (int_reads {n = 0}).takes b.0 a.0.1 d.0.0 d.0.1 d.1 in
    let p = some_pair ((a.0.0, d.0.0), d.0.1) (array, rest) d.2 in
    let parts : words ≡ (ls.front ++ vs.front) ++ rest = ls.parts ∙ ap (λ (ws : List (List ℕ)). ls.front ++ ws) (vs.parts ∙ ap (λ (ws : List (List ℕ)). vs.front ++ ws) p.1) ∙ sym (append_assoc ls.front vs.front rest) in
    let many = many_length (first_as int_of) b.0 a.0.1 d.0.0 d.0.1 d.1 ∙ sym size.1 in
    let made : AreParts (ls.front ++ vs.front) (a.0.0, d.0.0) = (ls.front, vs.front, refl, ls.is, few.1, ltb-true (nonzero_product a.0.0) (2 ^ 63) size.0, vs.is, many) in
    record { front = ls.front ++ vs.front; parts = parts; is = subst (AreParts (ls.front ++ vs.front)) p.0 made }

parts_words : (words after : List (List ℕ)) (lengths : List ℕ) (elements : List ℤ) (rest : List (List ℕ)) → lengths_at words ≡ Some (lengths, after) → HasCheckedSize lengths → many_at (first_as int_of) (size_of lengths) after ≡ Some (elements, rest) → parts_at words ≡ Some ((lengths, elements), rest)
unfolding parts_at
parts_words words after lengths elements rest e fits f = rw (e, lt-ltb (nonzero_product lengths) (2 ^ 63) fits, f) refl

parts_reads : {n : ℕ} → Reads n parts_at AreParts
parts_reads {n} = record {
  takes = parts_take;
  again = λ words array rest few h. (
      let each = few_parts n words h.0 h.1 h.2 few in
      let ls = lengths_again (h.0 ++ (h.1 ++ rest)) array.0 (h.1 ++ rest) ((list_reads {n = n}).again h.0 array.0 (h.1 ++ rest) each.0 h.3) h.4 in
      let most : length array.1 ≤ size_of array.0 = omega (arith, h.7) in
      let vs = many_again (λ ws. true) (first_as int_of) (IsWord IsInt) n (int_reads {n = n}).again (λ front x after is. refl) (size_of array.0) h.1 array.1 rest each.1 most (λ lt. absurd (omega (arith, lt, h.7))) h.6 in
      regrouped parts_at words h.0 h.1 rest h.2 ∙ parts_words (h.0 ++ (h.1 ++ rest)) (h.1 ++ rest) array.0 array.1 rest ls h.5 vs);
}

pub array_reads : {n : ℕ} → Reads n array_at IsArray
array_reads = made_reads (λ parts. array_of parts.0 parts.1) parts_reads

-- an array is a word or more
pub array_words : TakesWords array_at
array_words words x rest e =
    let f = (array_reads {n = 0}).takes words x rest e in
    let parts = f.is.2 in
    let list = parts.3 in
    omega (arith, ap (length {A = List ℕ}) f.parts, length-append f.front rest, ap (length {A = List ℕ}) parts.2, length-append parts.0 parts.1, ap (length {A = List ℕ}) list.2, length-append list.0 list.1, ap (length {A = List ℕ}) list.3.1)

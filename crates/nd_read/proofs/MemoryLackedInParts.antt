-- Where memory is lacked while words are read: what lacks it in a part of them does in the whole.
use Rattle.std.proofs.Common.{◌≡◌, ℕ, zero, suc, ◌+◌, ◌≤◌, ◌<◌, ◌^◌, true, cond, ltb, leb, List, [], ◌∷◌, length, ℤ, Option, Some, None, refl, sym, ap, arith}
use Rattle.std.proofs.lemmas.Bool.{ltb-true, lt-ltb, leb-true, le-leb, and_parts}
use Rattle.std.proofs.lemmas.Option.{cond_some}
use Rattle.nd_shape_and_slice.specs.ShapesAndIndexOrders.{nonzero_product, size_of}
use Rattle.nd_array_core.specs.ArrayMeaning.{Meaning}
use Rattle.nd_text.specs.declared.script_keywords.Keyword.TheVariants.{Ask, Write}
use Rattle.nd_text.specs.DecimalNumerals.{nat_of, int_of}
use Rattle.nd_text.proofs.NumbersReadAndWritten.{some_under}
use Rattle.nd_read.specs.declared.reader.read_errors.LineFault.{LineFault}
use Rattle.nd_read.specs.declared.reader.read_errors.LineFault.TheVariants.{Bad, Memory}
use Rattle.nd_read.specs.ScriptCalls.{AskedStep}
use Rattle.nd_read.specs.LineGrammar.{array_of}
use Rattle.nd_read.specs.LineReaders.{◌>>=◌, Fails, TakesWords, first_as, both_at, map_read, many_while, many_at, lengths_at, checked_size, parts_at, array_at, keyword_at, named_at, path_at, question_at, act_at, call_at, many_may_lack, array_may_lack, question_may_lack, act_may_lack, call_may_lack}
use Rattle.nd_read.proofs.ReadersMatchGrammar.{bind_some, some_pair, many_length}
use Rattle.nd_read.proofs.ItemReadingLoop.{item_words, lack_after}

abbrev cons : {X : Type 0} → X × List X → List X
cons x = x.0 ∷ x.1

-- items take a word or more each
many_words : {X : Type 0} (read : List (List ℕ) → Option (X × List (List ℕ))) → TakesWords read → (n : ℕ) (words : List (List ℕ)) (xs : List X) (rest : List (List ℕ)) → many_at read n words ≡ Some (xs, rest) → n + length rest ≤ length words
unfolding many_while both_at map_read
many_words {X} read takes zero words xs rest e = let none : List X = [] in let p = some_pair (none, words) (xs, rest) e in omega (arith, ap (length {A = List ℕ}) p.1)
many_words read takes (suc n) words xs rest e =
    let made = bind_some (both_at read (many_at read n) words) (λ x. Some (cons x.0, x.1)) (xs, rest) e in
    let a = bind_some (read words) (λ f. many_at read n f.1 >>= λ s. Some ((f.0, s.0), s.1)) made.0 made.1 in
    let b = bind_some (many_at read n a.0.1) (λ s. Some ((a.0.0, s.0), s.1)) made.0 a.2 in
    let p = some_pair ((a.0.0, b.0.0), b.0.1) made.0 b.2 in
    let q = some_pair (cons made.0.0, made.0.1) (xs, rest) made.2 in
    let tail : n + length b.0.1 ≤ length a.0.1 = many_words read takes n a.0.1 b.0.0 b.0.1 b.1 in
    let less : length a.0.1 < length words = takes words a.0.0 a.0.1 a.1 in
    omega (arith, tail, less, ap (length {A = List ℕ}) p.1, ap (length {A = List ℕ}) q.1)

-- an array whose lengths were read: there is one of them, or a word is left
lengths_lack : (words : List (List ℕ)) (ns : List ℕ) (rest : List (List ℕ)) → lengths_at words ≡ Some (ns, rest) → 0 < length ns + length rest → array_may_lack words ≡ true
unfolding lengths_at
lengths_lack words ns rest e some =
    let a = bind_some (first_as nat_of words) (λ count. cond (leb count.0 32) (many_at (first_as nat_of) count.0 count.1) None) (ns, rest) e in
    let few = some_under (leb a.0.0 32) (many_at (first_as nat_of) a.0.0 a.0.1) (ns, rest) a.2 in
    let enough : a.0.0 + length rest ≤ length a.0.1 = many_words (first_as nat_of) (item_words nat_of) a.0.0 a.0.1 ns rest few.1 in
    let many : length ns ≡ a.0.0 = many_length (first_as nat_of) a.0.0 a.0.1 ns rest few.1 in
    let one : 0 < length a.0.1 = omega (arith, enough, many, some) in
    let all : a.0.0 ≤ length a.0.1 = omega (arith, enough) in
    rw (a.1, few.0, lt-ltb 0 (length a.0.1) one, le-leb a.0.0 (length a.0.1) all) refl

-- its elements were not
pub parts_lack : (fault : LineFault) (words : List (List ℕ)) (ns : List ℕ) (rest : List (List ℕ)) (size : ℕ) → lengths_at words ≡ Some (ns, rest) → checked_size ns ≡ Some size
    → Fails (many_may_lack size rest) fault (many_at (first_as int_of) size rest) → Fails (array_may_lack words) fault (parts_at words)
unfolding parts_at
parts_lack Memory words ns rest size e f h =
    let p = and_parts (ltb 0 size) (leb size (length rest)) h in
    let one : 0 < size = ltb-true 0 size p.0 in
    let all : size ≤ length rest = leb-true size (length rest) p.1 in
    lengths_lack words ns rest e (omega (arith, one, all))
parts_lack Bad words ns rest size e f h = rw (e, f, h) refl

size_some : (ns : List ℕ) (n left : ℕ) → n ≡ size_of ns → n ≤ left → 0 < length ns + left
size_some [] n left e le = let one : n ≡ 1 = e in omega (arith, one, le)
size_some (m ∷ ns) n left e le = omega arith

-- an array that was read took memory
pub array_lacks : (words : List (List ℕ)) (array : Meaning ℤ) (rest : List (List ℕ)) → array_at words ≡ Some (array, rest) → array_may_lack words ≡ true
unfolding map_read parts_at
array_lacks words array rest e =
    let parts = bind_some (parts_at words) (λ parts. Some (array_of parts.0.0 parts.0.1, parts.1)) (array, rest) e in
    let a = bind_some (lengths_at words) (λ ls. checked_size ls.0 >>= λ size. many_at (first_as int_of) size ls.1 >>= λ vs. Some ((ls.0, vs.0), vs.1)) parts.0 parts.1 in
    let b = bind_some (checked_size a.0.0) (λ size. many_at (first_as int_of) size a.0.1 >>= λ vs. Some ((a.0.0, vs.0), vs.1)) parts.0 a.2 in
    let d = bind_some (many_at (first_as int_of) b.0 a.0.1) (λ vs. Some ((a.0.0, vs.0), vs.1)) parts.0 b.2 in
    let size = cond_some (ltb (nonzero_product a.0.0) (2 ^ 63)) (size_of a.0.0) b.0 b.1 in
    let enough : b.0 + length d.0.1 ≤ length a.0.1 = many_words (first_as int_of) (item_words int_of) b.0 a.0.1 d.0.0 d.0.1 d.1 in
    lengths_lack words a.0.0 a.0.1 a.1 (size_some a.0.0 b.0 (length a.0.1) (sym size.1) (omega (arith, enough)))

-- ---- after a path

pub ask_lacks : (fault : LineFault) (most : ℕ) (words after : List (List ℕ)) (path : List AskedStep) (rest : List (List ℕ)) → keyword_at words ≡ Some (Ask, after) → path_at most after ≡ Some (path, rest)
    → Fails (question_may_lack rest) fault (question_at rest) → Fails (call_may_lack words) fault (call_at most words)
unfolding named_at map_read both_at
ask_lacks Memory most words after path rest k e h = rw k (lack_after question_may_lack most after path rest e h)
ask_lacks Bad most words after path rest k e h = rw (k, e, h) refl

pub write_lacks : (fault : LineFault) (most : ℕ) (words after : List (List ℕ)) (path : List AskedStep) (rest : List (List ℕ)) → keyword_at words ≡ Some (Write, after) → path_at most after ≡ Some (path, rest)
    → Fails (act_may_lack rest) fault (act_at rest) → Fails (call_may_lack words) fault (call_at most words)
unfolding named_at map_read both_at
write_lacks Memory most words after path rest k e h = rw k (lack_after act_may_lack most after path rest e h)
write_lacks Bad most words after path rest k e h = rw (k, e, h) refl

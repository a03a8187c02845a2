-- What a reader takes from the front of words is what they write, and what they write it takes: for each way to put
-- readers together.
use Rattle.std.proofs.Common.{◌≡◌, ℕ, zero, suc, ◌≤◌, ◌<◌, Bool, true, false, List, [], ◌∷◌, ◌++◌, length, length-append, Option, Some, None, refl, sym, ap, subst, ◌∙◌, append_assoc, append-nil, arith, inl, inr}
use Rattle.nd_text.specs.declared.script_keywords.Keyword.{Keyword}
use Rattle.nd_text.specs.declared.script_keywords.Keyword.TheVariants.{Other, Slash}
use Rattle.nd_text.specs.DecimalNumerals.{IsNat, nat_of}
use Rattle.nd_text.specs.KeywordSpelling.{spelling}
use Rattle.nd_read.specs.LineGrammar.{IsWord, IsBare, IsBoth, IsMade, AreInTurn, IsCounted, HasKeyword, IsSlashAfter, IsSlashed}
use Rattle.nd_read.specs.LineReaders.{◌>>=◌, first_as, both_at, map_read, many_while, many_at, counted_at, named_at, slash_by, slashed_at, read_to_end}
use Rattle.nd_text.specs.KeywordSpelling.{keyword_of}
use Rattle.nd_text.proofs.KeywordSpelling.{known, spelled}
use Rattle.nd_text.proofs.NumbersReadAndWritten.{nat_takes, nat_again}

-- a step that read something
pub bind_some : {A B : Type 0} (r : Option A) (f : A → Option B) (y : B) → (r >>= f) ≡ Some y → (x : A) × (r ≡ Some x) × (f x ≡ Some y)
bind_some None f y e = absurd cc
bind_some (Some x) f y e = (x, refl, e)

-- the parts of a pair that was read
pub some_pair : {A B : Type 0} (p q : A × B) → Some p ≡ Some q → (p.0 ≡ q.0) × (p.1 ≡ q.1)
some_pair {A} {B} p q e = let same : p ≡ q = cc in (ap (λ (x : A × B). x.0) same, ap (λ (x : A × B). x.1) same)

-- what was read from the front: those words, and then the rest
pub record Front {X : Type 0} (Is : List (List ℕ) → X → Type 0) (words : List (List ℕ)) (x : X) (rest : List (List ℕ)) : Type 0 where
  pub front : List (List ℕ)
  pub parts : words ≡ front ++ rest
  pub is : Is front x

abbrev pub Takes : {X : Type 0} → (List (List ℕ) → Option (X × List (List ℕ))) → (List (List ℕ) → X → Type 0) → Type 0
Takes {X} read Is = (words : List (List ℕ)) (x : X) (rest : List (List ℕ)) → read words ≡ Some (x, rest) → Front Is words x rest

-- what at most n words write
abbrev pub Again : {X : Type 0} → ℕ → (List (List ℕ) → Option (X × List (List ℕ))) → (List (List ℕ) → X → Type 0) → Type 0
Again {X} n read Is = (front : List (List ℕ)) (x : X) (rest : List (List ℕ)) → length front ≤ n → Is front x → read (front ++ rest) ≡ Some (x, rest)

-- the reader reads what is so written, in at most n words, and nothing else
pub record Reads {X : Type 0} (n : ℕ) (read : List (List ℕ) → Option (X × List (List ℕ))) (Is : List (List ℕ) → X → Type 0) : Type 0 where
  pub takes : Takes read Is
  pub again : Again n read Is

pub few_parts : (n : ℕ) (words front back : List (List ℕ)) → words ≡ front ++ back → length words ≤ n → (length front ≤ n) × (length back ≤ n)
few_parts n words front back e few = let sum = length-append front back in let same : length words ≡ length (front ++ back) = ap (length {A = List ℕ}) e in (omega (arith, same, sum, few), omega (arith, same, sum, few))

pub regrouped : {Y : Type 0} (read : List (List ℕ) → Y) (words front back rest : List (List ℕ)) → words ≡ front ++ back → read (words ++ rest) ≡ read (front ++ (back ++ rest))
regrouped read words front back rest e = ap (λ (ws : List (List ℕ)). read (ws ++ rest)) e ∙ ap read (append_assoc front back rest)

-- ---- one word, or none

word_takes : {X : Type 0} (of : List ℕ → Option X) (Is : List ℕ → X → Type 0) → ((word : List ℕ) (x : X) → of word ≡ Some x → Is word x) → Takes (first_as of) (IsWord Is)
word_takes of Is takes [] x rest e = absurd cc
word_takes of Is takes (word ∷ words) x rest e =
    let h = bind_some (of word) (λ y. Some (y, words)) (x, rest) e in
    let p = some_pair (h.0, words) (x, rest) h.2 in
    record { front = word ∷ []; parts = ap (λ (ws : List (List ℕ)). word ∷ ws) p.1; is = (word, refl, takes word x (h.1 ∙ ap Some p.0)) }

pub word_reads : {X : Type 0} {n : ℕ} (of : List ℕ → Option X) (Is : List ℕ → X → Type 0) → ((word : List ℕ) (x : X) → of word ≡ Some x → Is word x) → ((word : List ℕ) (x : X) → Is word x → of word ≡ Some x) → Reads n (first_as of) (IsWord Is)
word_reads of Is takes again = record {
  takes = word_takes of Is takes;
  again = λ front x rest few h. (let read : of h.0 ≡ Some x = again h.0 x h.2 in rw (h.1, read) refl);
}

pub bare_reads : {X : Type 0} {n : ℕ} (made : X) → Reads n (λ words. Some (made, words)) (IsBare made)
bare_reads made = record {
  takes = λ words x rest e. (let p = some_pair (made, words) (x, rest) e in record { front = []; parts = p.1; is = (refl, sym p.0) });
  again = λ front x rest few h. rw (h.0, h.1) refl;
}

-- a keyword without a row
pub none_reads : {X : Type 0} {n : ℕ} → Reads {X = X} n (λ words. None) (λ words x. ⊥)
none_reads = record { takes = λ words x rest e. absurd cc; again = λ front x rest few h. absurd h }

-- ---- one thing, and then another

pub both_takes : {X Y : Type 0} (read : List (List ℕ) → Option (X × List (List ℕ))) (next : List (List ℕ) → Option (Y × List (List ℕ))) (Is : List (List ℕ) → X → Type 0) (Js : List (List ℕ) → Y → Type 0)
    → Takes read Is → Takes next Js → Takes (both_at read next) (IsBoth Is Js)
unfolding both_at
both_takes read next Is Js first second words x rest e =
    let a = bind_some (read words) (λ f. next f.1 >>= λ s. Some ((f.0, s.0), s.1)) (x, rest) e in
    let b = bind_some (next a.0.1) (λ s. Some ((a.0.0, s.0), s.1)) (x, rest) a.2 in
    let p = some_pair ((a.0.0, b.0.0), b.0.1) (x, rest) b.2 in
    let f = first words a.0.0 a.0.1 a.1 in
    let s = second a.0.1 b.0.0 b.0.1 b.1 in
    let parts : words ≡ (f.front ++ s.front) ++ rest = f.parts ∙ ap (λ (ws : List (List ℕ)). f.front ++ ws) (s.parts ∙ ap (λ (ws : List (List ℕ)). s.front ++ ws) p.1) ∙ sym (append_assoc f.front s.front rest) in
    record { front = f.front ++ s.front; parts = parts; is = subst (IsBoth Is Js (f.front ++ s.front)) p.0 (f.front, s.front, refl, f.is, s.is) }

-- where the first reader stops at what the second one reads
pub both_words : {X Y : Type 0} (read : List (List ℕ) → Option (X × List (List ℕ))) (next : List (List ℕ) → Option (Y × List (List ℕ))) (words front back : List (List ℕ)) (x : X × Y) (rest : List (List ℕ)) → words ≡ front ++ back
    → read (front ++ (back ++ rest)) ≡ Some (x.0, back ++ rest) → next (back ++ rest) ≡ Some (x.1, rest) → both_at read next (words ++ rest) ≡ Some (x, rest)
unfolding both_at
both_words read next words front back x rest parts e f =
    let one : both_at read next (front ++ (back ++ rest)) ≡ Some (x, rest) = rw (e, f) refl in regrouped (both_at read next) words front back rest parts ∙ one

pub both_reads : {X Y : Type 0} {n : ℕ} {read : List (List ℕ) → Option (X × List (List ℕ))} {next : List (List ℕ) → Option (Y × List (List ℕ))} {Is : List (List ℕ) → X → Type 0} {Js : List (List ℕ) → Y → Type 0}
    → Reads n read Is → Reads n next Js → Reads n (both_at read next) (IsBoth Is Js)
both_reads {X} {Y} {n} {read} {next} {Is} {Js} f s = record {
  takes = both_takes read next Is Js f.takes s.takes;
  again = λ words x rest few h. (let each = few_parts n words h.0 h.1 h.2 few in both_words read next words h.0 h.1 x rest h.2 (f.again h.0 x.0 (h.1 ++ rest) each.0 h.3) (s.again h.1 x.1 rest each.1 h.4));
}

-- ---- what is made of what was read

pub made_takes : {X Y : Type 0} (make : X → Y) (read : List (List ℕ) → Option (X × List (List ℕ))) (Is : List (List ℕ) → X → Type 0) → Takes read Is → Takes (λ words. map_read make (read words)) (IsMade make Is)
unfolding map_read
made_takes make read Is takes words y rest e =
    let a = bind_some (read words) (λ x. Some (make x.0, x.1)) (y, rest) e in
    let p = some_pair (make a.0.0, a.0.1) (y, rest) a.2 in
    let f = takes words a.0.0 a.0.1 a.1 in
    record { front = f.front; parts = f.parts ∙ ap (λ (ws : List (List ℕ)). f.front ++ ws) p.1; is = (a.0.0, sym p.0, f.is) }

made_word : {X Y : Type 0} (make : X → Y) (r : Option (X × List (List ℕ))) (x : X) (y : Y) (rest : List (List ℕ)) → y ≡ make x → r ≡ Some (x, rest) → map_read make r ≡ Some (y, rest)
unfolding map_read
made_word make r x y rest made e = rw (e, made) refl

pub made_reads : {X Y : Type 0} {n : ℕ} (make : X → Y) {read : List (List ℕ) → Option (X × List (List ℕ))} {Is : List (List ℕ) → X → Type 0} → Reads n read Is → Reads n (λ words. map_read make (read words)) (IsMade make Is)
made_reads make {read} {Is} r = record {
  takes = made_takes make read Is r.takes;
  again = λ front y rest few h. made_word make (read (front ++ rest)) h.0 y rest h.1 (r.again front h.0 rest few h.2);
}

-- ---- items one after another

abbrev cons : {X : Type 0} → X × List X → List X
cons x = x.0 ∷ x.1

turn_takes : {X : Type 0} (t : Bool) (begins : List (List ℕ) → Bool) (read : List (List ℕ) → Option (X × List (List ℕ))) (Is : List (List ℕ) → X → Type 0) (n : ℕ) → Takes read Is → Takes (many_while begins read n) (AreInTurn Is)
    → (words : List (List ℕ)) (xs : List X) (rest : List (List ℕ)) → begins words ≡ t → many_while begins read (suc n) words ≡ Some (xs, rest) → Front (AreInTurn Is) words xs rest
unfolding many_while
turn_takes {X} true begins read Is n takes others words xs rest is e =
    let read_so : map_read cons (both_at read (many_while begins read n) words) ≡ Some (xs, rest) = rw is at e in
    let f = made_takes cons (both_at read (many_while begins read n)) (IsBoth Is (AreInTurn Is)) (both_takes read (many_while begins read n) Is (AreInTurn Is) takes others) words xs rest read_so in
    record { front = f.front; parts = f.parts; is = subst (AreInTurn Is f.front) (sym f.is.1) f.is.2 }
turn_takes {X} false begins read Is n takes others words xs rest is e =
    let ended : ◌≡◌ {A = Option (List X × List (List ℕ))} (Some ([], words)) (Some (xs, rest)) = rw is at e in
    let p = some_pair ([], words) (xs, rest) ended in record { front = []; parts = p.1; is = subst (AreInTurn Is []) p.0 refl }

pub many_take : {X : Type 0} (begins : List (List ℕ) → Bool) (read : List (List ℕ) → Option (X × List (List ℕ))) (Is : List (List ℕ) → X → Type 0) → Takes read Is → (n : ℕ) → Takes (many_while begins read n) (AreInTurn Is)
unfolding many_while
many_take {X} begins read Is takes zero words xs rest e = let p = some_pair ([], words) (xs, rest) e in record { front = []; parts = p.1; is = subst (AreInTurn Is []) p.0 refl }
many_take begins read Is takes (suc n) words xs rest e = turn_takes (begins words) begins read Is n takes (many_take begins read Is takes n) words xs rest refl e

-- they end where no more are wanted, or none begins
pub many_again : {X : Type 0} (begins : List (List ℕ) → Bool) (read : List (List ℕ) → Option (X × List (List ℕ))) (Is : List (List ℕ) → X → Type 0) (m : ℕ) → Again m read Is
    → ((front : List (List ℕ)) (x : X) (rest : List (List ℕ)) → Is front x → begins (front ++ rest) ≡ true)
    → (n : ℕ) (front : List (List ℕ)) (xs : List X) (rest : List (List ℕ)) → length front ≤ m → length xs ≤ n → (length xs < n → begins rest ≡ false) → AreInTurn Is front xs → many_while begins read n (front ++ rest) ≡ Some (xs, rest)
unfolding many_while both_at map_read
many_again begins read Is m again begun zero front [] rest few most end h = rw h refl
many_again begins read Is m again begun zero front (x ∷ xs) rest few most end h = absurd (omega (arith, most))
many_again begins read Is m again begun (suc n) front [] rest few most end h = let stop : begins rest ≡ false = end (omega arith) in rw (h, stop) refl
many_again begins read Is m again begun (suc n) front (x ∷ xs) rest few most end h =
    let each = few_parts m front h.0 h.1 h.2 few in
    let first : begins (h.0 ++ (h.1 ++ rest)) ≡ true = begun h.0 x (h.1 ++ rest) h.3 in
    let one : read (h.0 ++ (h.1 ++ rest)) ≡ Some (x, h.1 ++ rest) = again h.0 x (h.1 ++ rest) each.0 h.3 in
    let more : many_while begins read n (h.1 ++ rest) ≡ Some (xs, rest) = many_again begins read Is m again begun n h.1 xs rest each.1 (omega (arith, most)) (λ lt. end (omega (arith, lt))) h.4 in
    let whole : many_while begins read (suc n) (h.0 ++ (h.1 ++ rest)) ≡ Some (x ∷ xs, rest) = rw (first, one, more) refl in
    regrouped (many_while begins read (suc n)) front h.0 h.1 rest h.2 ∙ whole

-- as many as asked for
pub many_length : {X : Type 0} (read : List (List ℕ) → Option (X × List (List ℕ))) (n : ℕ) (words : List (List ℕ)) (xs : List X) (rest : List (List ℕ)) → many_at read n words ≡ Some (xs, rest) → length xs ≡ n
unfolding many_while both_at map_read
many_length {X} read zero words xs rest e = let none : List X = [] in let p = some_pair (none, words) (xs, rest) e in ap (length {A = X}) (sym p.0)
many_length {X} read (suc n) words xs rest e =
    let made = bind_some (both_at read (many_at read n) words) (λ x. Some (cons x.0, x.1)) (xs, rest) e in
    let a = bind_some (read words) (λ f. many_at read n f.1 >>= λ s. Some ((f.0, s.0), s.1)) made.0 made.1 in
    let b = bind_some (many_at read n a.0.1) (λ s. Some ((a.0.0, s.0), s.1)) made.0 a.2 in
    let p = some_pair ((a.0.0, b.0.0), b.0.1) made.0 b.2 in
    let q = some_pair (cons made.0.0, made.0.1) (xs, rest) made.2 in
    let tail : length b.0.0 ≡ n = many_length read n a.0.1 b.0.0 b.0.1 b.1 in
    ap (length {A = X}) (sym (ap (λ (x : X × List X). x.0 ∷ x.1) p.0 ∙ q.0)) ∙ ap suc tail

counted_takes : {X : Type 0} (read : List (List ℕ) → Option (X × List (List ℕ))) (Is : List (List ℕ) → X → Type 0) → Takes read Is → Takes (counted_at read) (IsCounted Is)
unfolding counted_at
counted_takes read Is takes words xs rest e =
    let a = bind_some (first_as nat_of words) (λ count. many_at read count.0 count.1) (xs, rest) e in
    let count = word_takes nat_of IsNat nat_takes words a.0.0 a.0.1 a.1 in
    let items = many_take (λ ws. true) read Is takes a.0.0 a.0.1 xs rest a.2 in
    record {
      front = count.front ++ items.front;
      parts = count.parts ∙ ap (λ (ws : List (List ℕ)). count.front ++ ws) items.parts ∙ sym (append_assoc count.front items.front rest);
      is = (count.front, items.front, refl, subst (IsWord IsNat count.front) (sym (many_length read a.0.0 a.0.1 xs rest a.2)) count.is, items.is);
    }

counted_words : {X : Type 0} (read : List (List ℕ) → Option (X × List (List ℕ))) (count : List ℕ) (words : List (List ℕ)) (xs : List X) (rest : List (List ℕ)) → IsNat count (length xs) → many_at read (length xs) words ≡ Some (xs, rest) → counted_at read (count ∷ words) ≡ Some (xs, rest)
unfolding counted_at
counted_words read count words xs rest is e = rw (nat_again count (length xs) is, e) refl

pub counted_reads : {X : Type 0} {n : ℕ} {read : List (List ℕ) → Option (X × List (List ℕ))} {Is : List (List ℕ) → X → Type 0} → Reads n read Is → Reads n (counted_at read) (IsCounted Is)
counted_reads {X} {n} {read} {Is} r = record {
  takes = counted_takes read Is r.takes;
  again = λ words xs rest few h. (
      let items : many_at read (length xs) (h.1 ++ rest) ≡ Some (xs, rest) = many_again (λ ws. true) read Is n r.again (λ front x rest is. refl) (length xs) h.1 xs rest (few_parts n words h.0 h.1 h.2 few).1 (omega arith) (λ lt. absurd (omega (arith, lt))) h.4 in
      regrouped (counted_at read) words h.0 h.1 rest h.2 ∙ ap (λ (ws : List (List ℕ)). counted_at read (ws ++ (h.1 ++ rest))) h.3.1 ∙ counted_words read h.3.0 (h.1 ++ rest) xs rest h.3.2 items);
}

-- ---- a keyword, and what its row reads

named_takes : {X : Type 0} (row : Keyword → List (List ℕ) → Option (X × List (List ℕ))) (After : Keyword → List (List ℕ) → X → Type 0)
    → ((k : Keyword) → Takes (row k) (After k)) → ((words : List (List ℕ)) (x : X) → After Other words x → ⊥) → Takes (named_at row) (HasKeyword After)
unfolding named_at
named_takes row After rows none [] x rest e = absurd cc
named_takes row After rows none (word ∷ words) x rest e =
    let k = keyword_of word in
    let f = rows k words x rest e in
    let name : word ≡ spelling k = elim (spelled word) [ inl other ↦ absurd (none f.front x (subst (λ (name : Keyword). After name f.front x) other f.is)) | inr is ↦ is ] in
    record { front = spelling k ∷ f.front; parts = ap (λ (w : List ℕ). w ∷ words) name ∙ ap (λ (ws : List (List ℕ)). spelling k ∷ ws) f.parts; is = (k, f.front, refl, f.is) }

named_words : {X : Type 0} (row : Keyword → List (List ℕ) → Option (X × List (List ℕ))) (k : Keyword) (words : List (List ℕ)) → named_at row (spelling k ∷ words) ≡ row k words
unfolding named_at
named_words row k words = ap (λ (name : Keyword). row name words) (known k)

pub named_reads : {X : Type 0} {n : ℕ} {row : Keyword → List (List ℕ) → Option (X × List (List ℕ))} {After : Keyword → List (List ℕ) → X → Type 0}
    → ((k : Keyword) → Reads n (row k) (After k)) → ((words : List (List ℕ)) (x : X) → After Other words x → ⊥) → Reads n (named_at row) (HasKeyword After)
named_reads {X} {n} {row} {After} rows none = record {
  takes = named_takes row After (λ k. (rows k).takes) none;
  again = λ front x rest few h. (
      let fewer : length h.1 ≤ n = omega (arith, ap (length {A = List ℕ}) h.2, few) in
      ap (λ (ws : List (List ℕ)). named_at row (ws ++ rest)) h.2 ∙ named_words row h.0 (h.1 ++ rest) ∙ (rows h.0).again h.1 x rest fewer h.3);
}

slash_rows : {n : ℕ} (k : Keyword) → Reads n (slash_by k) (IsSlashAfter k)
slash_rows Slash = bare_reads tt
slash_rows _ = none_reads

pub slashed_reads : {X : Type 0} {n : ℕ} {read : List (List ℕ) → Option (X × List (List ℕ))} {Is : List (List ℕ) → X → Type 0} → Reads n read Is → Reads n (slashed_at read) (IsSlashed Is)
slashed_reads r = made_reads (λ x. x.0) (both_reads r (named_reads slash_rows (λ words x h. h)))

-- ---- a whole line

ended_takes : {X : Type 0} (p : X × List (List ℕ)) (x : X) → read_to_end p ≡ Some x → p ≡ (x, [])
ended_takes (y, []) x e = let same : y ≡ x = cc in ap (λ z. (z, [])) same
ended_takes (y, word ∷ words) x e = absurd cc

pub line_takes : {X : Type 0} {n : ℕ} {read : List (List ℕ) → Option (X × List (List ℕ))} {Is : List (List ℕ) → X → Type 0} → Reads n read Is → (words : List (List ℕ)) (x : X) → (read words >>= read_to_end) ≡ Some x → Is words x
line_takes {X} {n} {read} {Is} r words x e =
    let a = bind_some (read words) read_to_end x e in
    let f = r.takes words x [] (a.1 ∙ ap Some (ended_takes a.0 x a.2)) in
    subst (λ (ws : List (List ℕ)). Is ws x) (sym (f.parts ∙ append-nil f.front)) f.is

pub line_again : {X : Type 0} {n : ℕ} {read : List (List ℕ) → Option (X × List (List ℕ))} {Is : List (List ℕ) → X → Type 0} → Reads n read Is → (words : List (List ℕ)) (x : X) → length words ≤ n → Is words x → (read words >>= read_to_end) ≡ Some x
line_again {X} {n} {read} {Is} r words x few is =
    let e : read words ≡ Some (x, []) = ap read (sym (append-nil words)) ∙ r.again words x [] few is in rw e refl

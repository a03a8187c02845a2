-- Reading items one after the other, as a loop does.
use Rattle.std.proofs.Common.{◌≡◌, ℕ, zero, suc, ◌-◌, ◌+◌, ◌≤◌, ◌<◌, ◌||◌, Bool, true, false, List, [], ◌∷◌, ◌++◌, length, Option, Some, None, refl, sym, ap, ◌∙◌, append_assoc, arith}
use Rattle.std.proofs.lemmas.Bool.{lt-ltb, le-leb}
use Rattle.std.proofs.lemmas.List.{append-nil}
use Rattle.nd_read.specs.declared.reader.read_errors.LineFault.{LineFault}
use Rattle.nd_read.specs.declared.reader.read_errors.LineFault.TheVariants.{Bad, Memory}
use Rattle.nd_read.specs.ScriptCalls.{AskedStep}
use Rattle.nd_read.specs.LineReaders.{◌>>=◌, Fails, first_as, both_at, map_read, many_while, many_at, path_at, begins_step, many_may_lack, TakesWords}

-- what was read before, and what is still read
abbrev pub with_front : {X : Type 0} → List X → Option (List X × List (List ℕ)) → Option (List X × List (List ℕ))
with_front front read = read >>= λ x. Some (front ++ x.0, x.1)

regroup : {X : Type 0} (front : List X) (x : X) (read : Option (List X × List (List ℕ))) → with_front front (map_read {X = X × List X} (λ p. p.0 ∷ p.1) (read >>= λ y. Some ((x, y.0), y.1))) ≡ with_front (front ++ x ∷ []) read
unfolding map_read
regroup {X} front x None = refl
regroup {X} front x (Some y) = ap (λ (xs : List X). Some (xs, y.1)) (simp append_assoc)

pub goes_on : {X : Type 0} (begins : List (List ℕ) → Bool) (read : List (List ℕ) → Option (X × List (List ℕ))) (front : List X) (count i : ℕ) (words : List (List ℕ)) (x : X) (after : List (List ℕ)) (total : Option (List X × List (List ℕ))) → i < count → begins words ≡ true → read words ≡ Some (x, after)
    → with_front front (many_while begins read (count - i) words) ≡ total → with_front (front ++ x ∷ []) (many_while begins read (count - (i + 1)) after) ≡ total
unfolding many_while both_at
goes_on begins read front count i words x after total lt on h so_far =
    let k : count - i ≡ suc (count - (i + 1)) = omega arith in
    let one : with_front front (many_while begins read (count - i) words) ≡ with_front (front ++ x ∷ []) (many_while begins read (count - (i + 1)) after) = rw (k, on, h) (regroup front x (many_while begins read (count - (i + 1)) after)) in
    sym one ∙ so_far

-- here is what reading one takes, where memory may be lacked of it
pub stops : {X : Type 0} (begins : List (List ℕ) → Bool) (read : List (List ℕ) → Option (X × List (List ℕ))) (fault : LineFault) (front : List X) (count i : ℕ) (words : List (List ℕ)) (total : Option (List X × List (List ℕ))) (takes here : Bool) → i < count → begins words ≡ true → (here ≡ true → takes ≡ true) → Fails here fault (read words)
    → with_front front (many_while begins read (count - i) words) ≡ total → Fails takes fault total
unfolding many_while both_at map_read
stops begins read Memory front count i words total takes here lt on lacks h so_far = lacks h
stops begins read Bad front count i words total takes here lt on lacks h so_far =
    let k : count - i ≡ suc (count - (i + 1)) = omega arith in
    let one : with_front front (many_while begins read (count - i) words) ≡ None = rw (k, on, h) refl in
    sym so_far ∙ one

-- no more begins
pub ends : {X : Type 0} (begins : List (List ℕ) → Bool) (read : List (List ℕ) → Option (X × List (List ℕ))) (front : List X) (count i : ℕ) (words : List (List ℕ)) (total : Option (List X × List (List ℕ))) → i < count → begins words ≡ false
    → with_front front (many_while begins read (count - i) words) ≡ total → total ≡ Some (front, words)
unfolding many_while
ends {X} begins read front count i words total lt stop so_far =
    let k : count - i ≡ suc (count - (i + 1)) = omega arith in
    let one : with_front front (many_while begins read (count - i) words) ≡ Some (front, words) = rw (k, stop) (ap (λ (xs : List X). Some (xs, words)) (append-nil front)) in
    sym so_far ∙ one

-- no more are wanted
pub is_done : {X : Type 0} (begins : List (List ℕ) → Bool) (read : List (List ℕ) → Option (X × List (List ℕ))) (front : List X) (count i : ℕ) (words : List (List ℕ)) (total : Option (List X × List (List ℕ))) → count ≤ i → with_front front (many_while begins read (count - i) words) ≡ total → total ≡ Some (front, words)
unfolding many_while
is_done {X} begins read front count i words total le so_far =
    let k : count - i ≡ 0 = omega arith in
    let one : with_front front (many_while begins read (count - i) words) ≡ Some (front, words) = rw k (ap (λ (xs : List X). Some (xs, words)) (append-nil front)) in
    sym so_far ∙ one

short_by : {X : Type 0} (read : List (List ℕ) → Option (X × List (List ℕ))) (n : ℕ) (words : List (List ℕ)) (r : Option (X × List (List ℕ))) → read words ≡ r
    → ((x : X) (rest : List (List ℕ)) → r ≡ Some (x, rest) → many_at read n rest ≡ None) → many_at read (suc n) words ≡ None
unfolding many_while both_at map_read
short_by read n words None e h = rw e refl
short_by read n words (Some first) e h = rw (e, h first.0 first.1 refl) refl

-- a line with fewer words than items are to be read
pub short : {X : Type 0} (read : List (List ℕ) → Option (X × List (List ℕ))) → TakesWords read → (n : ℕ) (words : List (List ℕ)) → length words < n → many_at read n words ≡ None
short read takes zero words few = absurd (omega arith)
short read takes (suc n) words few = short_by read n words (read words) refl (λ x rest e. short read takes n rest (omega (arith, takes words x rest e, few)))

left_by : {X : Type 0} (r : Option X) (words : List (List ℕ)) (x : X) (rest : List (List ℕ)) → ◌>>=◌ {B = X × List (List ℕ)} r (λ y. Some (y, words)) ≡ Some (x, rest) → words ≡ rest
left_by None words x rest e = absurd cc
left_by {X} (Some y) words x rest e = let same : (y, words) ≡ (x, rest) = cc in ap (λ (p : X × List (List ℕ)). p.1) same

-- one word is read
pub item_words : {X : Type 0} (of : List ℕ → Option X) → TakesWords (first_as of)
item_words of [] x rest e = absurd cc
item_words of (word ∷ words) x rest e = let same : words ≡ rest = left_by (of word) words x rest e in omega (arith, ap length same)

-- ---- where items lack memory

pub many_lack : (count i : ℕ) (words : List (List ℕ)) → i < count → count ≤ length words → many_may_lack count words ≡ true
many_lack count i words lt le = let some : 0 < count = omega (arith, lt) in rw (lt-ltb 0 count some, le-leb count (length words) le) refl

-- a path that begins no step leaves all words
path_stays_by : (t : Bool) (n : ℕ) (words : List (List ℕ)) (path : List AskedStep) (rest : List (List ℕ)) → begins_step words ≡ t → t ≡ false → path_at n words ≡ Some (path, rest) → words ≡ rest
unfolding many_while
path_stays_by t zero words path rest is none e = let same : ([], words) ≡ (path, rest) = cc in ap (λ (p : List AskedStep × List (List ℕ)). p.1) same
path_stays_by true (suc n) words path rest is none e = absurd cc
path_stays_by false (suc n) words path rest is none e =
    let ended : ◌≡◌ {A = Option (List AskedStep × List (List ℕ))} (Some ([], words)) (Some (path, rest)) = rw is at e in
    let same : ([], words) ≡ (path, rest) = cc in ap (λ (p : List AskedStep × List (List ℕ)). p.1) same

-- what takes memory after a path does in front of it, where the path has no step
lack_after_by : (t : Bool) (takes : List (List ℕ) → Bool) (n : ℕ) (words : List (List ℕ)) (path : List AskedStep) (rest : List (List ℕ)) → begins_step words ≡ t → path_at n words ≡ Some (path, rest) → takes rest ≡ true → (t || takes words) ≡ true
lack_after_by true takes n words path rest is e lacks = refl
lack_after_by false takes n words path rest is e lacks = ap takes (path_stays_by false n words path rest is refl e) ∙ lacks

pub lack_after : (takes : List (List ℕ) → Bool) (n : ℕ) (words : List (List ℕ)) (path : List AskedStep) (rest : List (List ℕ)) → path_at n words ≡ Some (path, rest) → takes rest ≡ true → (begins_step words || takes words) ≡ true
lack_after takes n words path rest e lacks = lack_after_by (begins_step words) takes n words path rest refl e lacks

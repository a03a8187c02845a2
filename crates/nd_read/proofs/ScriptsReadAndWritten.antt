-- The script that is read is the one that the lines write, the one that they write is read, and the first bad
-- line is found.
use Rattle.std.proofs.Common.{◌≡◌, ℕ, ◌+◌, ◌≤◌, ◌⊎◌, Bool, true, false, cond, List, [], ◌∷◌, length, ℤ, Option, Some, None, Result, Ok, Err, refl, sym, subst, arith, inl, inr}
use Rattle.nd_read.specs.ScriptCalls.{Asked}
use Rattle.nd_read.specs.LineGrammar.{AreAll, IsStart, IsCall}
use Rattle.nd_text.specs.LinesAndWords.{before_first, word_goes_on, is_blank, words_of, is_wordless}
use Rattle.nd_read.specs.ScriptReading.{◌>>=◌, AskedScript, worded_lines, IsScript, IsNoStart, IsNoCall, read_or_number, call_in, start_in, calls_from, script_from}
use Rattle.nd_read.proofs.ReadingAfterKeywords.{call_takes, call_again, start_takes, start_again}

-- ---- lines

front_few : (b n : ℕ) (parts : List (List ℕ)) → length parts ≤ n → length (before_first b parts) ≤ n + 1
front_few b n [] h = omega arith
front_few b n (part ∷ parts) h = omega arith

few_by : (t u : Bool) (b n : ℕ) (words : List (List ℕ)) → length words ≤ n → length (cond t words (cond u (before_first b words) ((b ∷ []) ∷ words))) ≤ n + 1
few_by true u b n words h = omega arith
few_by false true b n words h = front_few b n words h
few_by false false b n words h = omega arith

-- a line has at most as many words as bytes
words_few : (line : List ℕ) → length (words_of line) ≤ length line
words_few [] = omega arith
words_few (b ∷ bs) = let h : length (words_of (b ∷ bs)) ≤ length bs + 1 = few_by (is_blank b) (word_goes_on bs) b (length bs) (words_of bs) (words_few bs) in omega (arith, h)

pub call_line : (line : List ℕ) (call : Asked ℤ) → IsCall (words_of line) call → call_in line ≡ Some call
call_line line call h = call_again (length line) (words_of line) call (words_few line) h

not_both : {X : Type 0} (r : Option X) (x : X) → r ≡ None → r ≡ Some x → ⊥
not_both None x e f = absurd cc
not_both (Some y) x e f = absurd cc

pub no_call : (line : List ℕ) → call_in line ≡ None → IsNoCall line
no_call line e call h = not_both (call_in line) call e (call_line line call h)

pub no_start : (line : List ℕ) → start_in line ≡ None → IsNoStart line
no_start line e start h = not_both (start_in line) start e (start_again (words_of line) start h)

none_by : {X : Type 0} (r : Option X) → ((x : X) → r ≡ Some x → ⊥) → r ≡ None
none_by None h = refl
none_by (Some x) h = absurd (h x refl)

pub call_none : (line : List ℕ) → IsNoCall line → call_in line ≡ None
call_none line h = none_by (call_in line) (λ call e. h call (call_takes (length line) (words_of line) call e))

pub start_none : (line : List ℕ) → IsNoStart line → start_in line ≡ None
start_none line h = none_by (start_in line) (λ array e. h array (start_takes (words_of line) array e))

-- ---- steps that read something, or not

pub bind_ok : {A B : Type 0} (r : Result A ℕ) (f : A → Result B ℕ) (y : B) → (r >>= f) ≡ Ok y → (x : A) × (r ≡ Ok x) × (f x ≡ Ok y)
bind_ok (Ok x) f y e = (x, refl, e)
bind_ok (Err n) f y e = absurd cc

pub bind_err : {A B : Type 0} (r : Result A ℕ) (f : A → Result B ℕ) (m : ℕ) → (r >>= f) ≡ Err m → (r ≡ Err m) ⊎ ((x : A) × (r ≡ Ok x) × (f x ≡ Err m))
bind_err (Ok x) f m e = inr (x, refl, e)
bind_err (Err n) f m e = inl cc

pub numbered_ok : {A : Type 0} (n : ℕ) (o : Option A) (x : A) → read_or_number n o ≡ Ok x → o ≡ Some x
numbered_ok n None x e = absurd cc
numbered_ok n (Some y) x e = cc

pub numbered_err : {A : Type 0} (n : ℕ) (o : Option A) (m : ℕ) → read_or_number n o ≡ Err m → (o ≡ None) × (m ≡ n)
numbered_err n None m e = (refl, cc)
numbered_err n (Some y) m e = absurd cc

-- ---- calls that are read

calls_by : (t : Bool) (n : ℕ) (line : List ℕ) (lines : List (List ℕ)) (calls : List (Asked ℤ)) → is_wordless (words_of line) ≡ t
    → ((cs : List (Asked ℤ)) → calls_from (n + 1) lines ≡ Ok cs → AreAll IsCall (worded_lines lines) cs) → calls_from n (line ∷ lines) ≡ Ok calls → AreAll IsCall (worded_lines (line ∷ lines)) calls
unfolding calls_from
calls_by true n line lines calls is others e = let read : calls_from (n + 1) lines ≡ Ok calls = rw is at e in rw is (others calls read)
calls_by false n line lines calls is others e =
    let read : (read_or_number n (call_in line) >>= λ call. calls_from (n + 1) lines >>= λ cs. Ok (call ∷ cs)) ≡ Ok calls = rw is at e in
    let a = bind_ok (read_or_number n (call_in line)) (λ call. calls_from (n + 1) lines >>= λ cs. Ok (call ∷ cs)) calls read in
    let b = bind_ok (calls_from (n + 1) lines) (λ cs. Ok (a.0 ∷ cs)) calls a.2 in
    let whole : a.0 ∷ b.0 ≡ calls = cc in
    let first : IsCall (words_of line) a.0 = call_takes (length line) (words_of line) a.0 (numbered_ok n (call_in line) a.0 a.1) in
    let made : AreAll IsCall (words_of line ∷ worded_lines lines) (a.0 ∷ b.0) = (first, others b.0 b.1) in
    rw is (subst (AreAll IsCall (words_of line ∷ worded_lines lines)) whole made)

pub calls_take : (n : ℕ) (lines : List (List ℕ)) (calls : List (Asked ℤ)) → calls_from n lines ≡ Ok calls → AreAll IsCall (worded_lines lines) calls
unfolding calls_from
calls_take n [] calls e = let none : [] ≡ calls = cc in subst (AreAll IsCall []) none tt
calls_take n (line ∷ lines) calls e = calls_by (is_wordless (words_of line)) n line lines calls refl (calls_take (n + 1) lines) e

again_by : (t : Bool) (n : ℕ) (line : List ℕ) (lines : List (List ℕ)) (calls : List (Asked ℤ)) → is_wordless (words_of line) ≡ t
    → ((cs : List (Asked ℤ)) → AreAll IsCall (worded_lines lines) cs → calls_from (n + 1) lines ≡ Ok cs) → AreAll IsCall (cond t (worded_lines lines) (words_of line ∷ worded_lines lines)) calls → calls_from n (line ∷ lines) ≡ Ok calls
unfolding calls_from
again_by true n line lines calls is others h = rw is (others calls h)
again_by false n line lines [] is others h = absurd h
again_by false n line lines (call ∷ calls) is others h = rw (is, call_line line call h.0, others calls h.1) refl

pub calls_again : (n : ℕ) (lines : List (List ℕ)) (calls : List (Asked ℤ)) → AreAll IsCall (worded_lines lines) calls → calls_from n lines ≡ Ok calls
unfolding calls_from
calls_again n [] [] h = refl
calls_again n [] (call ∷ calls) h = absurd h
calls_again n (line ∷ lines) calls h = again_by (is_wordless (words_of line)) n line lines calls refl (calls_again (n + 1) lines) h

-- ---- a script that is read

script_by : (t : Bool) (n : ℕ) (line : List ℕ) (lines : List (List ℕ)) (script : AskedScript) → is_wordless (words_of line) ≡ t
    → ((s : AskedScript) → script_from (n + 1) lines ≡ Ok s → IsScript lines s) → script_from n (line ∷ lines) ≡ Ok script → IsScript (line ∷ lines) script
unfolding script_from
script_by true n line lines script is others e =
    let read : script_from (n + 1) lines ≡ Ok script = rw is at e in
    let h = others script read in
    let same : worded_lines (line ∷ lines) ≡ h.0 ∷ h.1 = rw is h.2 in
    (h.0, h.1, same, h.3, h.4)
script_by false n line lines script is others e =
    let read : (read_or_number n (start_in line) >>= λ start. calls_from (n + 1) lines >>= λ calls. Ok (record { start = start; asked = calls })) ≡ Ok script = rw is at e in
    let a = bind_ok (read_or_number n (start_in line)) (λ start. calls_from (n + 1) lines >>= λ calls. Ok (record { start = start; asked = calls })) script read in
    let b = bind_ok (calls_from (n + 1) lines) (λ calls. Ok (record { start = a.0; asked = calls })) script a.2 in
    let made : AskedScript = record { start = a.0; asked = b.0 } in
    let whole : made ≡ script = cc in
    let first : IsStart (words_of line) a.0 = start_takes (words_of line) a.0 (numbered_ok n (start_in line) a.0 a.1) in
    let same : worded_lines (line ∷ lines) ≡ words_of line ∷ worded_lines lines = rw is refl in
    let is_script : IsScript (line ∷ lines) made = (words_of line, worded_lines lines, same, first, calls_take (n + 1) lines b.0 b.1) in
    subst (IsScript (line ∷ lines)) whole is_script

pub script_takes : (n : ℕ) (lines : List (List ℕ)) (script : AskedScript) → script_from n lines ≡ Ok script → IsScript lines script
unfolding script_from
script_takes n [] script e = absurd cc
script_takes n (line ∷ lines) script e = script_by (is_wordless (words_of line)) n line lines script refl (script_takes (n + 1) lines) e

-- the parts of a list that isn't empty
pub parts_are : {X : Type 0} (x y : X) (xs ys : List X) → x ∷ xs ≡ y ∷ ys → (x ≡ y) × (xs ≡ ys)
parts_are x y xs ys e = (cc, cc)

script_again_by : (t : Bool) (n : ℕ) (line : List ℕ) (lines : List (List ℕ)) (script : AskedScript) → is_wordless (words_of line) ≡ t
    → ((s : AskedScript) → IsScript lines s → script_from (n + 1) lines ≡ Ok s) → (first : List (List ℕ)) (others : List (List (List ℕ))) → cond t (worded_lines lines) (words_of line ∷ worded_lines lines) ≡ first ∷ others
    → IsStart first script.start → AreAll IsCall others script.asked → script_from n (line ∷ lines) ≡ Ok script
unfolding script_from
script_again_by true n line lines script is rest first others e start calls = rw is (rest script (first, others, e, start, calls))
script_again_by false n line lines script is rest first others e start calls =
    let p = parts_are (words_of line) first (worded_lines lines) others e in
    let read : start_in line ≡ Some script.start = start_again (words_of line) script.start (subst (λ (ws : List (List ℕ)). IsStart ws script.start) (sym p.0) start) in
    let more : calls_from (n + 1) lines ≡ Ok script.asked = calls_again (n + 1) lines script.asked (subst (λ (ws : List (List (List ℕ))). AreAll IsCall ws script.asked) (sym p.1) calls) in
    rw (is, read, more) refl

pub script_again : (n : ℕ) (lines : List (List ℕ)) (script : AskedScript) → IsScript lines script → script_from n lines ≡ Ok script
unfolding script_from
script_again n [] script h = let clash : [] ≡ h.0 ∷ h.1 = h.2 in absurd cc
script_again n (line ∷ lines) script h = script_again_by (is_wordless (words_of line)) n line lines script refl (script_again (n + 1) lines) h.0 h.1 h.2 h.3 h.4

-- Reading lines one after the other, as a loop does.
use Rattle.std.proofs.Common.{◌≡◌, ℕ, ◌+◌, Bool, true, false, cond, eqb, length, List, [], ◌∷◌, ◌++◌, ℤ, Result, Ok, Err, refl, sym, ap, subst, ◌∙◌, inl, inr, append_assoc, arith}
use Rattle.std.proofs.lemmas.List.{append-nil}
use Rattle.std.proofs.lemmas.Bool.{eqb-true}
use Rattle.nd_array_core.specs.ArrayMeaning.{Meaning}
use Rattle.nd_read.specs.declared.reader.read_errors.ScriptError.{ScriptError}
use Rattle.nd_read.specs.declared.reader.read_errors.ScriptError.TheVariants.{BadLine, Memory}
use Rattle.nd_read.specs.ScriptCalls.{Asked}
use Rattle.nd_text.specs.LinesAndWords.{lines_of, words_of, is_wordless}
use Rattle.nd_read.specs.LineGrammar.{AreAll, IsStart, IsCall}
use Rattle.nd_read.specs.ScriptReading.{◌>>=◌, AskedScript, worded_lines, StartMayLack, CallMayLack, MayLackIn, MayLackInCalls, FailsAt, read_or_number, call_in, start_in, calls_from, script_from}
use Rattle.nd_read.proofs.ReadingAfterKeywords.{call_takes, start_takes}
use Rattle.nd_read.proofs.ScriptsReadAndWritten.{numbered_ok}

-- a text without bytes has no line
pub lines_none : (text : List ℕ) → true ≡ eqb (length text) 0 → lines_of text ≡ []
lines_none [] e = refl
lines_none (b ∷ bs) e = let none : length (b ∷ bs) ≡ 0 = eqb-true (length (b ∷ bs)) 0 (sym e) in absurd (omega arith)

-- the calls that were read before, and those still to be read
abbrev pub with_calls : List (Asked ℤ) → Result (List (Asked ℤ)) ℕ → Result (List (Asked ℤ)) ℕ
with_calls front read = read >>= λ calls. Ok (front ++ calls)

regroup : (front : List (Asked ℤ)) (call : Asked ℤ) (read : Result (List (Asked ℤ)) ℕ) → with_calls front (read >>= λ calls. Ok (call ∷ calls)) ≡ with_calls (front ++ call ∷ []) read
regroup front call (Ok calls) = ap (λ (cs : List (Asked ℤ)). Ok cs) (simp append_assoc)
regroup front call (Err n) = refl

pub calls_skip : (front : List (Asked ℤ)) (n : ℕ) (line : List ℕ) (lines rest : List (List ℕ)) (total : Result (List (Asked ℤ)) ℕ) → lines ≡ line ∷ rest → is_wordless (words_of line) ≡ true
    → with_calls front (calls_from n lines) ≡ total → with_calls front (calls_from (n + 1) rest) ≡ total
unfolding calls_from
calls_skip front n line lines rest total e none so_far =
    let one : with_calls front (calls_from n lines) ≡ with_calls front (calls_from (n + 1) rest) = rw (e, none) refl in
    sym one ∙ so_far

pub calls_more : (front : List (Asked ℤ)) (n : ℕ) (line : List ℕ) (lines rest : List (List ℕ)) (call : Asked ℤ) (total : Result (List (Asked ℤ)) ℕ) → lines ≡ line ∷ rest → is_wordless (words_of line) ≡ false → read_or_number n (call_in line) ≡ Ok call
    → with_calls front (calls_from n lines) ≡ total → with_calls (front ++ call ∷ []) (calls_from (n + 1) rest) ≡ total
unfolding calls_from
calls_more front n line lines rest call total e some h so_far =
    let one : with_calls front (calls_from n lines) ≡ with_calls (front ++ call ∷ []) (calls_from (n + 1) rest) = rw (e, some, h) (regroup front call (calls_from (n + 1) rest)) in
    sym one ∙ so_far

pub calls_stop : (fault : ScriptError) (front : List (Asked ℤ)) (n : ℕ) (line : List ℕ) (lines rest : List (List ℕ)) (total : Result (List (Asked ℤ)) ℕ) → lines ≡ line ∷ rest → is_wordless (words_of line) ≡ false → FailsAt fault (read_or_number n (call_in line))
    → with_calls front (calls_from n lines) ≡ total → FailsAt fault total
unfolding calls_from
calls_stop Memory front n line lines rest total e some h so_far = tt
calls_stop (BadLine m) front n line lines rest total e some h so_far =
    let one : with_calls front (calls_from n lines) ≡ Err m = rw (e, some, h) refl in
    sym so_far ∙ one

pub calls_done : (front : List (Asked ℤ)) (n : ℕ) (lines : List (List ℕ)) (total : Result (List (Asked ℤ)) ℕ) → lines ≡ [] → with_calls front (calls_from n lines) ≡ total → total ≡ Ok front
unfolding calls_from
calls_done front n lines total none so_far =
    let one : with_calls front (calls_from n lines) ≡ Ok front = rw none (ap (λ (cs : List (Asked ℤ)). Ok cs) (append-nil front)) in
    sym so_far ∙ one

-- ---- the start

pub script_skip : (n : ℕ) (line : List ℕ) (lines rest : List (List ℕ)) (total : Result AskedScript ℕ) → lines ≡ line ∷ rest → is_wordless (words_of line) ≡ true → script_from n lines ≡ total → script_from (n + 1) rest ≡ total
unfolding script_from
script_skip n line lines rest total e none so_far =
    let one : script_from n lines ≡ script_from (n + 1) rest = rw (e, none) refl in
    sym one ∙ so_far

pub script_none : (n : ℕ) (lines : List (List ℕ)) (total : Result AskedScript ℕ) → lines ≡ [] → script_from n lines ≡ total → total ≡ Err n
unfolding script_from
script_none n lines total none so_far =
    let one : script_from n lines ≡ Err n = rw none refl in
    sym so_far ∙ one

pub script_bad : (fault : ScriptError) (n : ℕ) (line : List ℕ) (lines rest : List (List ℕ)) (total : Result AskedScript ℕ) → lines ≡ line ∷ rest → is_wordless (words_of line) ≡ false → FailsAt fault (read_or_number n (start_in line))
    → script_from n lines ≡ total → FailsAt fault total
unfolding script_from
script_bad Memory n line lines rest total e some h so_far = tt
script_bad (BadLine m) n line lines rest total e some h so_far =
    let one : script_from n lines ≡ Err m = rw (e, some, h) refl in
    sym so_far ∙ one

pub script_bad_call : (fault : ScriptError) (n : ℕ) (line : List ℕ) (lines rest : List (List ℕ)) (start : Meaning ℤ) (total : Result AskedScript ℕ) → lines ≡ line ∷ rest → is_wordless (words_of line) ≡ false → read_or_number n (start_in line) ≡ Ok start → FailsAt fault (calls_from (n + 1) rest)
    → script_from n lines ≡ total → FailsAt fault total
unfolding script_from
script_bad_call Memory n line lines rest start total e some h g so_far = tt
script_bad_call (BadLine m) n line lines rest start total e some h g so_far =
    let one : script_from n lines ≡ Err m = rw (e, some, h, g) refl in
    sym so_far ∙ one

pub script_read : (n : ℕ) (line : List ℕ) (lines rest : List (List ℕ)) (start : Meaning ℤ) (calls : List (Asked ℤ)) (total : Result AskedScript ℕ) → lines ≡ line ∷ rest → is_wordless (words_of line) ≡ false → read_or_number n (start_in line) ≡ Ok start → calls_from (n + 1) rest ≡ Ok calls
    → script_from n lines ≡ total → total ≡ Ok (record { start = start; asked = calls })
unfolding script_from
script_read n line lines rest start calls total e some h g so_far =
    let one : script_from n lines ≡ Ok (record { start = start; asked = calls }) = rw (e, some, h, g) refl in
    sym so_far ∙ one

-- ---- the lines before a want of memory

worded_by : (t : Bool) (line : List ℕ) (xs ys : List (List ℕ)) → worded_lines (xs ++ ys) ≡ worded_lines xs ++ worded_lines ys
    → cond t (worded_lines (xs ++ ys)) (words_of line ∷ worded_lines (xs ++ ys)) ≡ cond t (worded_lines xs) (words_of line ∷ worded_lines xs) ++ worded_lines ys
worded_by true line xs ys e = e
worded_by false line xs ys e = ap (λ ls. words_of line ∷ ls) e

pub worded-append : (xs ys : List (List ℕ)) → worded_lines (xs ++ ys) ≡ worded_lines xs ++ worded_lines ys
worded-append [] ys = refl
worded-append (line ∷ xs) ys = worded_by (is_wordless (words_of line)) line xs ys (worded-append xs ys)

all_more : {W X : Type 0} (Is : W → X → Type 0) (ws : List W) (xs : List X) (w : W) (x : X) → AreAll Is ws xs → Is w x → AreAll Is (ws ++ w ∷ []) (xs ++ x ∷ [])
all_more Is [] [] w x all is = (is, tt)
all_more Is [] (y ∷ ys) w x all is = absurd all
all_more Is (v ∷ vs) [] w x all is = absurd all
all_more Is (v ∷ vs) (y ∷ ys) w x all is = (all.0, all_more Is vs ys w x all.1 is)

-- the calls in front of these lines were read
abbrev pub AreReadTo : List (List ℕ) → List (List ℕ) → List (Asked ℤ) → Type 0
AreReadTo lines rest calls = (front : List (List ℕ)) × (lines ≡ front ++ rest) × AreAll IsCall (worded_lines front) calls

one_more : (lines front rest more : List (List ℕ)) (line : List ℕ) → lines ≡ front ++ rest → rest ≡ line ∷ more → lines ≡ (front ++ line ∷ []) ++ more
one_more lines front rest more line e f = e ∙ (ap (λ (ls : List (List ℕ)). front ++ ls) f ∙ sym (append_assoc front (line ∷ []) more))

worded_one : (t : Bool) (line : List ℕ) → is_wordless (words_of line) ≡ t → worded_lines (line ∷ []) ≡ cond t [] (words_of line ∷ [])
worded_one t line e = rw e refl

pub read_skip : (lines rest more : List (List ℕ)) (line : List ℕ) (calls : List (Asked ℤ)) → rest ≡ line ∷ more → is_wordless (words_of line) ≡ true → AreReadTo lines rest calls → AreReadTo lines more calls
read_skip lines rest more line calls e none (front, parts, all) =
    let same : worded_lines (front ++ line ∷ []) ≡ worded_lines front = worded-append front (line ∷ []) ∙ (ap (λ ls. worded_lines front ++ ls) (worded_one true line none) ∙ append-nil (worded_lines front)) in
    (front ++ line ∷ [], one_more lines front rest more line parts e, subst (λ ws. AreAll IsCall ws calls) (sym same) all)

pub read_more : (lines rest more : List (List ℕ)) (line : List ℕ) (calls : List (Asked ℤ)) (call : Asked ℤ) (n : ℕ) → rest ≡ line ∷ more → is_wordless (words_of line) ≡ false → read_or_number n (call_in line) ≡ Ok call → AreReadTo lines rest calls → AreReadTo lines more (calls ++ call ∷ [])
read_more lines rest more line calls call n e some h (front, parts, all) =
    let same : worded_lines (front ++ line ∷ []) ≡ worded_lines front ++ words_of line ∷ [] = worded-append front (line ∷ []) ∙ ap (λ ls. worded_lines front ++ ls) (worded_one false line some) in
    let is : IsCall (words_of line) call = call_takes (length line) (words_of line) call (numbered_ok n (call_in line) call h) in
    (front ++ line ∷ [], one_more lines front rest more line parts e, subst (λ ws. AreAll IsCall ws (calls ++ call ∷ [])) (sym same) (all_more IsCall (worded_lines front) calls (words_of line) call all is))

pub read_stops : (lines rest more : List (List ℕ)) (line : List ℕ) (calls : List (Asked ℤ)) → rest ≡ line ∷ more → is_wordless (words_of line) ≡ false → CallMayLack line → AreReadTo lines rest calls → MayLackInCalls lines
read_stops lines rest more line calls e some lacks (front, parts, all) = (front, line, more, parts ∙ ap (λ (ls : List (List ℕ)). front ++ ls) e, some, calls, all, lacks)

-- a fault that is handed on is the one that is answered
pub same_fault : {X Y : Type 0} (r : Result X ScriptError) (given fault : ScriptError) → r ≡ Err given → given ≡ fault → r ≡ Err Memory → ◌≡◌ {A = Result Y ScriptError} (Err fault) (Err Memory)
same_fault {X} r given fault e f h =
    let same : ◌≡◌ {A = Result X ScriptError} (Err given) (Err Memory) = sym e ∙ h in
    let is : given ≡ Memory = cc in ap Err (sym f ∙ is)

-- the list of calls takes a call in that was read
pub taken_in : (line : List ℕ) (call : Asked ℤ) (n : ℕ) → read_or_number n (call_in line) ≡ Ok call → CallMayLack line
taken_in line call n h = inr (call, call_takes (length line) (words_of line) call (numbered_ok n (call_in line) call h))

-- the lines in front of these have no words
abbrev pub AreSkippedTo : List (List ℕ) → List (List ℕ) → Type 0
AreSkippedTo lines rest = (front : List (List ℕ)) × (lines ≡ front ++ rest) × (worded_lines front ≡ [])

pub skip_more : (lines rest more : List (List ℕ)) (line : List ℕ) → rest ≡ line ∷ more → is_wordless (words_of line) ≡ true → AreSkippedTo lines rest → AreSkippedTo lines more
skip_more lines rest more line e none (front, parts, skipped) =
    let same : worded_lines (front ++ line ∷ []) ≡ [] = worded-append front (line ∷ []) ∙ (ap (λ ls. worded_lines front ++ ls) (worded_one true line none) ∙ (append-nil (worded_lines front) ∙ skipped)) in
    (front ++ line ∷ [], one_more lines front rest more line parts e, same)

-- want of memory in the start, or in a call after it
pub start_stops : (lines rest more : List (List ℕ)) (line : List ℕ) → rest ≡ line ∷ more → is_wordless (words_of line) ≡ false → StartMayLack line → AreSkippedTo lines rest → MayLackIn lines
start_stops lines rest more line e some lacks (front, parts, skipped) = (front, line, more, parts ∙ ap (λ (ls : List (List ℕ)). front ++ ls) e, some, inl (skipped, lacks))

pub calls_stop_in : (lines rest more : List (List ℕ)) (line : List ℕ) (start : Meaning ℤ) (n : ℕ) → rest ≡ line ∷ more → is_wordless (words_of line) ≡ false → read_or_number n (start_in line) ≡ Ok start → AreSkippedTo lines rest → MayLackInCalls more → MayLackIn lines
calls_stop_in lines rest more line start n e some h (front, parts, skipped) (before, last, back, split, words, calls, all, lacks) =
    let script : AskedScript = record { start = start; asked = calls } in
    let is : IsStart (words_of line) start = start_takes (words_of line) start (numbered_ok n (start_in line) start h) in
    let worded : worded_lines (front ++ line ∷ before) ≡ words_of line ∷ worded_lines before = worded-append front (line ∷ before) ∙ (ap (λ ls. ls ++ worded_lines (line ∷ before)) skipped ∙ rw some refl) in
    let cut : lines ≡ (front ++ line ∷ before) ++ (last ∷ back) =
    parts ∙ (ap (λ (ls : List (List ℕ)). front ++ ls) (e ∙ ap (λ (ls : List (List ℕ)). line ∷ ls) split) ∙ sym (append_assoc front (line ∷ before) (last ∷ back))) in
    (front ++ line ∷ before, last, back, cut, words, inr (script, (words_of line, worded_lines before, worded, is, all), lacks))

-- The number that reading answers is that of the first bad line.
use Rattle.std.proofs.Common.{◌≡◌, ℕ, ◌+◌, Bool, true, false, cond, List, [], ◌∷◌, ◌++◌, length, ℤ, Some, None, Result, Ok, Err, refl, sym, ap, subst, ◌∙◌, arith, inl, inr}
use Rattle.nd_array_core.specs.ArrayMeaning.{Meaning}
use Rattle.nd_read.specs.ScriptCalls.{Asked}
use Rattle.nd_read.specs.LineGrammar.{AreAll, IsStart, IsCall}
use Rattle.nd_text.specs.LinesAndWords.{words_of, is_wordless}
use Rattle.nd_read.specs.ScriptReading.{◌>>=◌, AskedScript, worded_lines, IsScript, IsNoStart, IsNoCall, IsBadFrom, read_or_number, call_in, start_in, calls_from, script_from}
use Rattle.nd_read.proofs.ReadingAfterKeywords.{call_takes, start_takes, start_again}
use Rattle.nd_read.proofs.ScriptsReadAndWritten.{no_call, no_start, call_none, start_none, call_line, bind_err, numbered_ok, numbered_err, parts_are}

-- the first line that isn't a call, where each line before it is
record BadCall (n : ℕ) (lines : List (List ℕ)) (bad : ℕ) : Type 0 where
  front : List (List ℕ)
  line : List ℕ
  back : List (List ℕ)
  parts : lines ≡ front ++ (line ∷ back)
  number : bad ≡ length front + n
  some : is_wordless (words_of line) ≡ false
  calls : List (Asked ℤ)
  good : AreAll IsCall (worded_lines front) calls
  is : IsNoCall line

later_call : (t : Bool) (n : ℕ) (line : List ℕ) (lines : List (List ℕ)) (bad : ℕ) (calls : List (Asked ℤ)) → is_wordless (words_of line) ≡ t → (h : BadCall (n + 1) lines bad) → AreAll IsCall (cond t (worded_lines h.front) (words_of line ∷ worded_lines h.front)) calls → BadCall n (line ∷ lines) bad
later_call t n line lines bad calls is h good = record {
  front = line ∷ h.front;
  line = h.line;
  back = h.back;
  parts = ap (λ (ls : List (List ℕ)). line ∷ ls) h.parts;
  number = omega (arith, h.number);
  some = h.some;
  calls = calls;
  good = rw is good;
  is = h.is;
}

bad_call_here : (n : ℕ) (line : List ℕ) (lines : List (List ℕ)) (bad : ℕ) → is_wordless (words_of line) ≡ false → (call_in line ≡ None) × (bad ≡ n) → BadCall n (line ∷ lines) bad
bad_call_here n line lines bad is h = record {
  front = [];
  line = line;
  back = lines;
  parts = refl;
  number = omega (arith, h.1);
  some = is;
  calls = [];
  good = tt;
  is = no_call line h.0;
}

calls_bad_after : (n : ℕ) (line : List ℕ) (lines : List (List ℕ)) (bad : ℕ) (call : Asked ℤ) → is_wordless (words_of line) ≡ false → read_or_number n (call_in line) ≡ Ok call
    → (calls_from (n + 1) lines >>= λ cs. Ok (call ∷ cs)) ≡ Err bad → ((m : ℕ) → calls_from (n + 1) lines ≡ Err m → BadCall (n + 1) lines m) → BadCall n (line ∷ lines) bad
calls_bad_after n line lines bad call is read e others =
    elim (bind_err (calls_from (n + 1) lines) (λ cs. Ok (call ∷ cs)) bad e) [
      | inl err ↦ (let h = others bad err in later_call false n line lines bad (call ∷ h.calls) is h (call_takes (length line) (words_of line) call (numbered_ok n (call_in line) call read), h.good))
      | inr ok ↦ absurd (let clash : Ok (call ∷ ok.0) ≡ Err bad = ok.2 in cc)
    ]

calls_bad_by : (t : Bool) (n : ℕ) (line : List ℕ) (lines : List (List ℕ)) (bad : ℕ) → is_wordless (words_of line) ≡ t
    → ((m : ℕ) → calls_from (n + 1) lines ≡ Err m → BadCall (n + 1) lines m) → calls_from n (line ∷ lines) ≡ Err bad → BadCall n (line ∷ lines) bad
unfolding calls_from
calls_bad_by true n line lines bad is others e =
    let read : calls_from (n + 1) lines ≡ Err bad = rw is at e in
    let h = others bad read in
    later_call true n line lines bad h.calls is h h.good
calls_bad_by false n line lines bad is others e =
    let read : (read_or_number n (call_in line) >>= λ call. calls_from (n + 1) lines >>= λ cs. Ok (call ∷ cs)) ≡ Err bad = rw is at e in
    elim (bind_err (read_or_number n (call_in line)) (λ call. calls_from (n + 1) lines >>= λ cs. Ok (call ∷ cs)) bad read) [
      | inl err ↦ bad_call_here n line lines bad is (numbered_err n (call_in line) bad err)
      | inr ok ↦ calls_bad_after n line lines bad ok.0 is ok.1 ok.2 others
    ]

calls_bad : (n : ℕ) (lines : List (List ℕ)) (bad : ℕ) → calls_from n lines ≡ Err bad → BadCall n lines bad
unfolding calls_from
calls_bad n [] bad e = absurd cc
calls_bad n (line ∷ lines) bad e = calls_bad_by (is_wordless (words_of line)) n line lines bad refl (calls_bad (n + 1) lines) e

-- ---- the whole script

-- a line without words before the others
later : (n : ℕ) (line : List ℕ) (lines : List (List ℕ)) (bad : ℕ) → is_wordless (words_of line) ≡ true → IsBadFrom (n + 1) lines bad → IsBadFrom n (line ∷ lines) bad
later n line lines bad is (inl none) = inl (rw is none.0, omega (arith, none.1))
later n line lines bad is (inr (front, bad_line, back, parts, number, some, inl start)) =
    inr (line ∷ front, bad_line, back, ap (λ (ls : List (List ℕ)). line ∷ ls) parts, omega (arith, number), some, inl (rw is start.0, start.1))
later n line lines bad is (inr (front, bad_line, back, parts, number, some, inr (script, good, call))) =
    let same : worded_lines (line ∷ front) ≡ good.0 ∷ good.1 = rw is good.2 in
    inr (line ∷ front, bad_line, back, ap (λ (ls : List (List ℕ)). line ∷ ls) parts, omega (arith, number), some, inr (script, (good.0, good.1, same, good.3, good.4), call))

-- the start is good, and a call after it isn't
call_after_start : (n : ℕ) (line : List ℕ) (lines : List (List ℕ)) (bad : ℕ) (start : Meaning ℤ) → is_wordless (words_of line) ≡ false → start_in line ≡ Some start → BadCall (n + 1) lines bad → IsBadFrom n (line ∷ lines) bad
call_after_start n line lines bad start is read h =
    let script : AskedScript = record { start = start; asked = h.calls } in
    let same : worded_lines (line ∷ h.front) ≡ words_of line ∷ worded_lines h.front = rw is refl in
    inr (line ∷ h.front, h.line, h.back, ap (λ (ls : List (List ℕ)). line ∷ ls) h.parts, omega (arith, h.number), h.some, inr (script, (words_of line, worded_lines h.front, same, start_takes (words_of line) start read, h.good), h.is))

abbrev script_with : Meaning ℤ → List (Asked ℤ) → Result AskedScript ℕ
script_with start calls = Ok (record { start = start; asked = calls })

script_bad_after : (n : ℕ) (line : List ℕ) (lines : List (List ℕ)) (bad : ℕ) (start : Meaning ℤ) → is_wordless (words_of line) ≡ false → start_in line ≡ Some start → (calls_from (n + 1) lines >>= script_with start) ≡ Err bad → IsBadFrom n (line ∷ lines) bad
script_bad_after n line lines bad start is read e =
    elim (bind_err (calls_from (n + 1) lines) (script_with start) bad e) [
      | inl err ↦ call_after_start n line lines bad start is read (calls_bad (n + 1) lines bad err)
      | inr ok ↦ absurd (let clash : script_with start ok.0 ≡ Err bad = ok.2 in cc)
    ]

script_bad_by : (t : Bool) (n : ℕ) (line : List ℕ) (lines : List (List ℕ)) (bad : ℕ) → is_wordless (words_of line) ≡ t
    → ((m : ℕ) → script_from (n + 1) lines ≡ Err m → IsBadFrom (n + 1) lines m) → script_from n (line ∷ lines) ≡ Err bad → IsBadFrom n (line ∷ lines) bad
unfolding script_from
script_bad_by true n line lines bad is others e = let read : script_from (n + 1) lines ≡ Err bad = rw is at e in later n line lines bad is (others bad read)
script_bad_by false n line lines bad is others e =
    let read : (read_or_number n (start_in line) >>= λ start. calls_from (n + 1) lines >>= script_with start) ≡ Err bad = rw is at e in
    elim (bind_err (read_or_number n (start_in line)) (λ start. calls_from (n + 1) lines >>= script_with start) bad read) [
      | inl err ↦ (let h = numbered_err n (start_in line) bad err in inr ([], line, lines, refl, omega (arith, h.1), is, inl (refl, no_start line h.0)))
      | inr ok ↦ script_bad_after n line lines bad ok.0 is (numbered_ok n (start_in line) ok.0 ok.1) ok.2
    ]

pub script_bad : (n : ℕ) (lines : List (List ℕ)) (bad : ℕ) → script_from n lines ≡ Err bad → IsBadFrom n lines bad
unfolding script_from
script_bad n [] bad e = let same : bad ≡ n = cc in inl (refl, omega (arith, same))
script_bad n (line ∷ lines) bad e = script_bad_by (is_wordless (words_of line)) n line lines bad refl (script_bad (n + 1) lines) e

-- ---- and the first bad line has the number that reading answers

bad_call_by : (t : Bool) (n : ℕ) (first : List ℕ) (lines : List (List ℕ)) (calls : List (Asked ℤ)) (bad : ℕ) → is_wordless (words_of first) ≡ t
    → AreAll IsCall (cond t (worded_lines lines) (words_of first ∷ worded_lines lines)) calls → (rest : List (List ℕ)) → ((cs : List (Asked ℤ)) → AreAll IsCall (worded_lines lines) cs → calls_from (n + 1) rest ≡ Err bad) → calls_from n (first ∷ rest) ≡ Err bad
unfolding calls_from
bad_call_by true n first lines calls bad is good rest h = rw is (h calls good)
bad_call_by false n first lines [] bad is good rest h = absurd good
bad_call_by false n first lines (call ∷ calls) bad is good rest h = rw (is, call_line first call good.0, h calls good.1) refl

bad_call_again : (n : ℕ) (front : List (List ℕ)) (line : List ℕ) (back : List (List ℕ)) (calls : List (Asked ℤ)) → AreAll IsCall (worded_lines front) calls → is_wordless (words_of line) ≡ false → IsNoCall line
    → (bad : ℕ) → bad ≡ length front + n → calls_from n (front ++ (line ∷ back)) ≡ Err bad
unfolding calls_from
bad_call_again n [] line back calls good some none bad number = let same : n ≡ bad = omega (arith, number) in rw (some, call_none line none) (ap Err same)
bad_call_again n (first ∷ front) line back calls good some none bad number =
    bad_call_by (is_wordless (words_of first)) n first front calls bad refl good (front ++ (line ∷ back)) (λ cs h. bad_call_again (n + 1) front line back cs h some none bad (omega (arith, number)))

-- a front without words
wordless_by : (t : Bool) (first : List ℕ) (front : List (List ℕ)) → is_wordless (words_of first) ≡ t → cond t (worded_lines front) (words_of first ∷ worded_lines front) ≡ [] → (is_wordless (words_of first) ≡ true) × (worded_lines front ≡ [])
wordless_by true first front is e = (is, e)
wordless_by false first front is e = absurd cc

skips : (n : ℕ) (first : List ℕ) (rest : List (List ℕ)) (bad : ℕ) → is_wordless (words_of first) ≡ true → script_from (n + 1) rest ≡ Err bad → script_from n (first ∷ rest) ≡ Err bad
unfolding script_from
skips n first rest bad is h = rw is h

none_again : (n : ℕ) (lines : List (List ℕ)) (bad : ℕ) → worded_lines lines ≡ [] → bad ≡ length lines + n → script_from n lines ≡ Err bad
unfolding script_from
none_again n [] bad none number = let same : n ≡ bad = omega (arith, number) in ap Err same
none_again n (first ∷ lines) bad none number =
    let h = wordless_by (is_wordless (words_of first)) first lines refl none in
    skips n first lines bad h.0 (none_again (n + 1) lines bad h.1 (omega (arith, number)))

start_again_bad : (n : ℕ) (front : List (List ℕ)) (line : List ℕ) (back : List (List ℕ)) → worded_lines front ≡ [] → is_wordless (words_of line) ≡ false → IsNoStart line → (bad : ℕ) → bad ≡ length front + n → script_from n (front ++ (line ∷ back)) ≡ Err bad
unfolding script_from
start_again_bad n [] line back none some bad_start bad number = let same : n ≡ bad = omega (arith, number) in rw (some, start_none line bad_start) (ap Err same)
start_again_bad n (first ∷ front) line back none some bad_start bad number =
    let h = wordless_by (is_wordless (words_of first)) first front refl none in
    skips n first (front ++ (line ∷ back)) bad h.0 (start_again_bad (n + 1) front line back h.1 some bad_start bad (omega (arith, number)))

after_start : (t : Bool) (n : ℕ) (first : List ℕ) (front rest : List (List ℕ)) (script : AskedScript) (bad : ℕ) → is_wordless (words_of first) ≡ t
    → (start : List (List ℕ)) (others : List (List (List ℕ))) → cond t (worded_lines front) (words_of first ∷ worded_lines front) ≡ start ∷ others → IsStart start script.start → AreAll IsCall others script.asked
    → (IsScript front script → script_from (n + 1) rest ≡ Err bad) → ((calls : List (Asked ℤ)) → AreAll IsCall (worded_lines front) calls → calls_from (n + 1) rest ≡ Err bad) → script_from n (first ∷ rest) ≡ Err bad
unfolding script_from
after_start true n first front rest script bad is start others e h calls later_script later_calls = rw is (later_script (start, others, e, h, calls))
after_start false n first front rest script bad is start others e h calls later_script later_calls =
    let p = parts_are (words_of first) start (worded_lines front) others e in
    let read : start_in first ≡ Some script.start = start_again (words_of first) script.start (subst (λ (ws : List (List ℕ)). IsStart ws script.start) (sym p.0) h) in
    let more : calls_from (n + 1) rest ≡ Err bad = later_calls script.asked (subst (λ (ws : List (List (List ℕ))). AreAll IsCall ws script.asked) (sym p.1) calls) in
    rw (is, read, more) refl

call_again_bad : (n : ℕ) (front : List (List ℕ)) (line : List ℕ) (back : List (List ℕ)) (script : AskedScript) → IsScript front script → is_wordless (words_of line) ≡ false → IsNoCall line → (bad : ℕ) → bad ≡ length front + n → script_from n (front ++ (line ∷ back)) ≡ Err bad
unfolding script_from
call_again_bad n [] line back script good some none bad number = let clash : [] ≡ good.0 ∷ good.1 = good.2 in absurd cc
call_again_bad n (first ∷ front) line back script good some none bad number =
    after_start (is_wordless (words_of first)) n first front (front ++ (line ∷ back)) script bad refl good.0 good.1 good.2 good.3 good.4
    (λ h. call_again_bad (n + 1) front line back script h some none bad (omega (arith, number)))
    (λ calls h. bad_call_again (n + 1) front line back calls h some none bad (omega (arith, number)))

pub bad_again : (n : ℕ) (lines : List (List ℕ)) (bad : ℕ) → IsBadFrom n lines bad → script_from n lines ≡ Err bad
bad_again n lines bad (inl none) = none_again n lines bad none.0 none.1
bad_again n lines bad (inr (front, line, back, parts, number, some, inl start)) = ap (script_from n) parts ∙ start_again_bad n front line back start.0 some start.1 bad number
bad_again n lines bad (inr (front, line, back, parts, number, some, inr (script, good, call))) = ap (script_from n) parts ∙ call_again_bad n front line back script good some call bad number

use Rattle.std.proofs.Common.{◌≡◌, ◌<◌, ◌++◌, ◌∷◌, [], length, map, true, false, refl, inl, inr}
use Rattle.std.proofs.lemmas.Result.{err_from_is_err_and}
use Rattle.std.proofs.lemmas.Bool.{cases_lt}
use Rattle.std.proofs.lemmas.List.{map_push}
use Rattle.nd_array_core.specs.ArrayMeaning.{meaning_of}
use Rattle.nd_read.specs.ScriptCalls.{boxed}
use Rattle.nd_read.specs.LineReaders.{array_at, many_at, array_may_lack, many_may_lack}
use Rattle.nd_read.proofs.ArraysReadAndWritten.{array_words}
use Rattle.nd_read.proofs.ItemReadingLoop.{goes_on, stops, is_done, short, many_lack}
use Rattle.nd_read.proofs.reader.words_of_line.Line.boxes.Goals as goal

pub returns-then-not-has_words-clause-read : goal.returns-then-not-has_words-clause-read
returns-then-not-has_words-clause-read c =
    let few : length c.args.self.now < c.args.count = elim (cases_lt (length c.args.self.now) c.args.count) [ inl lt ↦ lt | inr le ↦ (let clash : false ≡ true = c.if-not-has_words.ensures.1 (rw c.self.view_is le) in absurd cc) ] in
    short array_at array_words c.args.count c.args.self.now few

pub returns-in_err-boxed-clause-read : goal.returns-in_err-boxed-clause-read
returns-in_err-boxed-clause-read c =
    let p = err_from_is_err_and c.from_residual-in_err-boxed.result c.from_residual-in_err-boxed.ensures.1 in
    rw (p.1, p.2) (stops (λ ws. true) array_at c.in_err-boxed.field-0.0 (map (boxed meaning_of) c.loop.arrays.items) c.args.count c.loop.counter c.loop.self (many_at array_at c.args.count c.args.self.now) (many_may_lack c.args.count c.args.self.now) (array_may_lack c.loop.self) c.loop-test.true refl (λ e. many_lack c.args.count c.loop.counter c.args.self.now c.loop-test.true (rw (← c.self.view_is) (c.if-not-has_words.ensures.0 refl))) c.in_err-boxed.ensures c.loop.invariant)

pub loop-preserved : goal.loop-preserved
loop-preserved c =
    let array = boxed meaning_of c.in_ok-boxed.field-0 in
    let e : map (boxed meaning_of) c.push.new.self.items ≡ map (boxed meaning_of) c.loop.arrays.items ++ array ∷ [] = rw c.in_ok-push.ensures.items (map_push _ c.loop.arrays.items c.in_ok-boxed.field-0) in
    rw e (goes_on (λ ws. true) array_at (map (boxed meaning_of) c.loop.arrays.items) c.args.count c.loop.counter c.loop.self array c.boxed.new.self (many_at array_at c.args.count c.args.self.now) c.loop-test.true refl c.in_ok-boxed.ensures c.loop.invariant)

pub returns-clause-read : goal.returns-clause-read
returns-clause-read c = is_done (λ ws. true) array_at (map (boxed meaning_of) c.loop.arrays.items) c.args.count c.loop.counter c.loop.self (many_at array_at c.args.count c.args.self.now) c.loop-test.false c.loop.invariant

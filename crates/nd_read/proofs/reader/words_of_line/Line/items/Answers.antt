use Rattle.std.proofs.Common.{◌≡◌, ◌<◌, length, true, false, refl, inl, inr}
use Rattle.std.proofs.lemmas.Result.{err_from_is_err_and}
use Rattle.std.proofs.lemmas.Bool.{cases_lt}
use Rattle.nd_read.specs.LineReaders.{many_at, many_may_lack}
use Rattle.nd_read.proofs.ItemReadingLoop.{goes_on, stops, is_done, short}
use Rattle.nd_read.proofs.reader.words_of_line.Line.items.Goals as goal

pub returns-then-not-has_words-clause-read : goal.returns-then-not-has_words-clause-read
returns-then-not-has_words-clause-read g c =
    let few : length c.args.self.now < c.args.count = elim (cases_lt (length c.args.self.now) c.args.count) [ inl lt ↦ lt | inr le ↦ (let clash : false ≡ true = c.if-not-has_words.ensures.1 (rw c.self.view_is le) in absurd cc) ] in
    short g.I.Item.read_at c.requires c.args.count c.args.self.now few

pub returns-in_err-read-clause-read : goal.returns-in_err-read-clause-read
returns-in_err-read-clause-read g c =
    let p = err_from_is_err_and c.from_residual-in_err-read.result c.from_residual-in_err-read.ensures.1 in
    rw (p.1, p.2) (stops (λ ws. true) g.I.Item.read_at c.in_err-read.field-0.0 c.loop.items.items c.args.count c.loop.counter c.loop.self (many_at g.I.Item.read_at c.args.count c.args.self.now) (many_may_lack c.args.count c.args.self.now) false c.loop-test.true refl (λ e. absurd cc) c.in_err-read.ensures c.loop.invariant)

pub loop-preserved : goal.loop-preserved
loop-preserved g c =
    rw c.in_ok-push.ensures.items (goes_on (λ ws. true) g.I.Item.read_at c.loop.items.items c.args.count c.loop.counter c.loop.self c.in_ok-read.field-0 c.read.new.self (many_at g.I.Item.read_at c.args.count c.args.self.now) c.loop-test.true refl c.in_ok-read.ensures c.loop.invariant)

pub returns-clause-read : goal.returns-clause-read
returns-clause-read g c = is_done (λ ws. true) g.I.Item.read_at c.loop.items.items c.args.count c.loop.counter c.loop.self (many_at g.I.Item.read_at c.args.count c.args.self.now) c.loop-test.false c.loop.invariant

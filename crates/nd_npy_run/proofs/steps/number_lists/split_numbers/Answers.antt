use Rattle.std.proofs.Common.{◌≡◌, ◌<◌, length, true, false, None, refl, sym, inl, inr, arith, rules}
use Rattle.std.proofs.lemmas.Bool.{cases_lt}
use Rattle.nd_text.specs.DecimalNumerals.{nat_of}
use Rattle.nd_text.specs.LinesAndWords.{words_of}
use Rattle.nd_read.specs.declared.reader.read_errors.LineFault.TheVariants.{Bad}
use Rattle.nd_read.specs.LineReaders.{first_as, many_at}
use Rattle.nd_read.proofs.ItemReadingLoop.{goes_on, stops, is_done, short, item_words}
use Rattle.nd_npy_run.proofs.NumberLists.{nothing_before}
use Rattle.nd_npy_run.proofs.steps.number_lists.split_numbers.Goals as goal

pub returns-then-not-has_words : goal.returns-then-not-has_words
returns-then-not-has_words c =
    let words = words_of c.args.line.now in
    let few : length words < c.args.count = elim (cases_lt (length words) c.args.count) [ inl lt ↦ lt | inr le ↦ (let clash : false ≡ true = c.if-not-has_words.ensures.1 le in absurd cc) ] in
    short (first_as nat_of) (item_words nat_of) c.args.count words few

pub loop-init : goal.loop-init
loop-init c = record {
  numbers = nothing_before c.in_ok-numbers.numbers.items c.args.count (words_of c.args.line.now) c.in_ok-numbers.ensures.items;
  len = search rules;
  room = search rules;
}

pub returns-in-None : goal.returns-in-None
returns-in-None c =
    let none : first_as nat_of (words_of c.loop.rest.now) ≡ None = sym c.in-None.ensures in
    stops (λ ws. true) (first_as nat_of) Bad c.loop.numbers.items c.args.count c.loop.counter (words_of c.loop.rest.now) (many_at (first_as nat_of) c.args.count (words_of c.args.line.now)) false false c.loop-test.true refl (λ e. e) none c.loop.invariant.numbers

pub loop-preserved : goal.loop-preserved
loop-preserved c =
    let so_far = goes_on (λ ws. true) (first_as nat_of) c.loop.numbers.items c.args.count c.loop.counter (words_of c.loop.rest.now) c.in-Some.number (words_of c.in-Some.after.now) (many_at (first_as nat_of) c.args.count (words_of c.args.line.now)) c.loop-test.true refl (sym c.in-Some.ensures) c.loop.invariant.numbers in
    record {
      numbers = rw c.push_reserved.ensures.items so_far;
      len = omega (arith, c.push_reserved.ensures.len, c.loop.invariant.len);
      room = search rules;
    }

pub returns : goal.returns
returns c = is_done (λ ws. true) (first_as nat_of) c.loop.numbers.items c.args.count c.loop.counter (words_of c.loop.rest.now) (many_at (first_as nat_of) c.args.count (words_of c.args.line.now)) c.loop-test.false c.loop.invariant.numbers

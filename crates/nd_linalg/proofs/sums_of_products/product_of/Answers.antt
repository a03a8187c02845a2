use Rattle.std.proofs.Common.{◌≡◌, ℕ, ◌+◌, ◌*◌, ◌<◌, length, subst, arith, ap, sym, ◌∙◌}
use Rattle.std.specs.Prelude.{slice_get}
use Rattle.std.proofs.lemmas.Bool.Decides.{nat_tests}
use Rattle.nd_linalg.specs.DotAndMatrixProducts.{sum_of_products}
use Rattle.nd_linalg.proofs.RowsOfCells.{row_more, row_within}
use Rattle.nd_linalg.proofs.sums_of_products.product_of.Goals as goal

pub push_sums-requires-clause-row : goal.push_sums-requires-clause-row
push_sums-requires-clause-row g c =
    let within = row_within c.loop-i.i c.args.rows c.args.inner c.loop-i-test.true in omega (arith, within, c.requires.left)

pub push_sums-requires-clause-cells : goal.push_sums-requires-clause-cells
push_sums-requires-clause-cells g c = c.requires.right ∙ ap (λ n. c.args.inner * n) (sym c.loop-i.invariant.wide)

pub push_sums-requires-clause-room : goal.push_sums-requires-clause-room
push_sums-requires-clause-room g c =
    let kept = c.loop-i.invariant in
    let within = row_within c.loop-i.i c.args.rows c.args.columns c.loop-i-test.true in omega (arith, within, kept.len, kept.wide, kept.room)

pub loop-i-preserved : goal.loop-i-preserved
loop-i-preserved g c =
    let kept = c.loop-i.invariant in
    let more = c.push_sums.ensures in
    let sums = sum_of_products g.A.Arithmetic.plus g.A.Arithmetic.times g.A.Zero.zero in
    let width = λ (w : ℕ). (j : ℕ) → j < w → slice_get c.push_sums.new.cells.items (length c.loop-i.cells.items + j) ≡ sums (λ k. slice_get c.args.left.now (c.loop-i.i * c.args.inner + k)) (λ k. slice_get c.args.right.now (k * w + j)) c.args.inner in
    record {
      wide = more.as_many ∙ kept.wide;
      count = omega (arith, more.count, kept.count, kept.wide);
      len = omega (arith, more.len, kept.len, kept.wide);
      room = omega (arith, more.room, kept.room);
      each = row_more (λ i j. sums (λ k. slice_get c.args.left.now (i * c.args.inner + k)) (λ k. slice_get c.args.right.now (k * c.args.columns + j)) c.args.inner) c.loop-i.i c.args.columns c.loop-i.cells.items c.push_sums.new.cells.items kept.count more.before (subst width kept.wide more.row) kept.each;
    }

pub loop-i-init : goal.loop-i-init
loop-i-init g c = grind (arith, nat_tests, row_within)

pub overflow_mul-i : goal.overflow_mul-i
overflow_mul-i g c =
    let within = row_within c.loop-i.i c.args.rows c.args.inner c.loop-i-test.true in omega (arith, within, c.requires.left)

pub returns-clause-count : goal.returns-clause-count
returns-clause-count g c =
    let below = c.loop-i-test.false in
    let end = c.loop-i.auto.i-end in
    let done : c.loop-i.i ≡ c.args.rows = omega (arith, below, end) in
    c.loop-i.invariant.count ∙ ap (λ n. n * c.args.columns) done

pub returns-clause-each : goal.returns-clause-each
returns-clause-each g c i j h k = c.loop-i.invariant.each i j (omega (arith, h, c.loop-i-test.false)) k

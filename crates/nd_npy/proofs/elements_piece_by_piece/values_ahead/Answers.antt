use Rattle.std.proofs.Common.{◌≡◌, ◌∙◌, ◌<◌, ◌≤◌, ◌+◌, ◌*◌, ◌^◌, inr, length, vec_len, ap, sym, subst, refl, arith}
use Rattle.std.specs.Prelude.{Ok, OnOk, IfSome}
use Rattle.nd_npy.specs.declared.errors.ReadNpyError.TheVariants.{Memory}
use Rattle.nd_npy.specs.declared.errors.ReadNpyFromError.TheVariants.{File}
use Rattle.nd_npy.specs.StreamReadsAndWrites.{bytes_ahead, FailsToRead, ReadsPiece}
use Rattle.nd_npy.proofs.ItemsInPieces.{StillAhead, ahead_first, ahead_read, ahead_taken, bytes_counted, values_whole, values_given, values_counted, turn_smaller}
use Rattle.nd_npy.proofs.ArraysFromStreams.{values_fail}
use Rattle.nd_npy.proofs.elements_piece_by_piece.values_ahead.Goals as goal

pub loop-input-init : goal.loop-input-init
loop-input-init g c = record {
  ahead = rw (c.requires.none, c.requires.empty) (ahead_first (g.A.NpyItem.value_of c.args.order) c.args.size c.args.count _);
  few = omega (arith, c.requires.empty);
  failed = c.requires.fine;
  stops = refl;
}

pub loop-input-preserved : goal.loop-input-preserved
loop-input-preserved g c =
    let value = g.A.NpyItem.value_of c.args.order in
    let size = c.args.size in
    let count = c.args.count in
    let kept = c.loop-input.invariant in
    let took = ahead_taken value size count _ (g.R.Read.remaining c.loop-input.input.inner) _ _ _ _ _ _ c.in-Ok.ensures kept.ahead in
    let next = c.in-Ok-true.ensures in
    let reads = subst (λ more. ReadsPiece g.R.Read.remaining c.loop-input.input c.read_on.new.input c.take_items.new.pending.items c.read_on.new.pending.items (Ok more)) c.in-Ok-true.field-0-test next.reads in
    record {
      ahead = ahead_read value size count _ _ _ _ _ reads.0 took;
      few = c.in-Ok.ensures.at_most_count;
      failed = next.watch.0;
      stops = next.watch.1 ∙ kept.stops;
    }

pub loop-input-smaller : goal.loop-input-smaller
loop-input-smaller g c =
    let pending = c.read_on.new.pending in
    let low : vec_len pending < 2 ^ 63 = omega (arith, pending.ok.1, pending.small) in
    let taken = c.take_items.new.pending in
    let reads = subst (λ more. ReadsPiece g.R.Read.remaining c.loop-input.input c.read_on.new.input taken.items pending.items (Ok more)) c.in-Ok-true.field-0-test c.in-Ok-true.ensures.reads in
    let more : vec_len taken < vec_len pending = omega (arith, reads.1, taken.ok.0, pending.ok.0) in
    turn_smaller (g.A.NpyItem.value_of c.args.order) c.args.size c.args.count _ _ _ _ _ _ (vec_len c.loop-input.pending) (vec_len c.take_items.new.pending) (vec_len pending) c.in-Ok.ensures c.loop-input.pending.ok.0 c.take_items.new.pending.ok.0 more low c.requires.fits

pub returns-in-Ok-false-clause-read : goal.returns-in-Ok-false-clause-read
returns-in-Ok-false-clause-read g c =
    let value = g.A.NpyItem.value_of c.args.order in
    let size = c.args.size in
    let count = c.args.count in
    let took = c.in-Ok.ensures in
    let whole = bytes_ahead g.R.Read.remaining c.args.pending.now.items c.args.input.now in
    let rest = g.R.Read.remaining c.read_on.new.input.inner in
    let xs = c.take_items.new.values.items in
    let taken = c.len.result in
    let is_taken = c.len.ensures in
    let pending = c.read_on.new.pending in
    let reads = subst (λ more. ReadsPiece g.R.Read.remaining c.loop-input.input c.read_on.new.input c.take_items.new.pending.items pending.items (Ok more)) c.in-Ok-false.field-0-test c.in-Ok-false.ensures.reads in
    let before = ahead_taken value size count whole (g.R.Read.remaining c.loop-input.input.inner) _ _ _ _ _ _ took c.loop-input.invariant.ahead in
    let after = subst (λ n. StillAhead value size count whole xs n (bytes_ahead g.R.Read.remaining pending.items c.read_on.new.input)) (sym is_taken) (ahead_read value size count whole _ _ xs _ reads.0 before) in
    let left = c.len-in-Ok-false.result in
    let long = c.len-in-Ok-false.ensures ∙ pending.ok.0 in
    let counted = bytes_counted value size count whole rest xs taken pending.items after reads.1 in
    let short = λ (below : taken < count). subst (λ l. length l < size) (sym reads.2) (took.else_short (subst (λ n. n < count) is_taken below)) in
    let enough = λ (same : taken * size + left ≡ count * size). values_whole value size count whole rest xs taken pending.items after reads.1 (subst (λ n. n ≤ count) (sym is_taken) took.at_most_count) short (ap (λ n. taken * size + n) (sym long) ∙ same) in
    values_given value size count whole xs (taken * size + left) (subst (λ n. IfSome whole (λ bytes. taken * size + n ≡ length bytes)) (sym long) counted) enough
    _ c.unless_wrong_size.ensures.whole c.unless_wrong_size.ensures.refused c.unless_wrong_size.ensures.differs

pub returns-in-Ok-false-clause-count : goal.returns-in-Ok-false-clause-count
returns-in-Ok-false-clause-count g c =
    let took = c.in-Ok.ensures in
    let size = c.args.size in
    let count = c.args.count in
    let taken = c.len.result in
    let is_taken = c.len.ensures in
    let long = c.len-in-Ok-false.ensures ∙ c.read_on.new.pending.ok.0 in
    let reads = subst (λ more. ReadsPiece g.R.Read.remaining c.loop-input.input c.read_on.new.input c.take_items.new.pending.items c.read_on.new.pending.items (Ok more)) c.in-Ok-false.field-0-test c.in-Ok-false.ensures.reads in
    let short = λ (below : taken < count). subst (λ n. n < size) (sym long) (subst (λ l. length l < size) (sym reads.2) (took.else_short (subst (λ n. n < count) is_taken below))) in
    subst (λ n. OnOk c.unless_wrong_size.result (n ≡ count)) is_taken (values_counted (g.A.NpyItem.value_of c.args.order) size count taken c.len-in-Ok-false.result (subst (λ n. n ≤ count) (sym is_taken) took.at_most_count) short _ c.unless_wrong_size.ensures.whole)

pub returns-in-Err-read_on-clause-read : goal.returns-in-Err-read_on-clause-read
returns-in-Err-read_on-clause-read g c = values_fail c.in-Err-read_on.error c.in-Err-read_on.ensures.reads c.args.size c.args.count _

pub returns-in-Err-clause-read : goal.returns-in-Err-clause-read
returns-in-Err-clause-read g c =
    let refused : FailsToRead (File Memory) (Unit {0}) = inr (refl, tt) in
    values_fail (File Memory) refused c.args.size c.args.count _

pub returns-in-Err-read_on-clause-watch : goal.returns-in-Err-read_on-clause-watch
returns-in-Err-read_on-clause-watch g c = (c.in-Err-read_on.ensures.watch.0, c.in-Err-read_on.ensures.watch.1 ∙ c.loop-input.invariant.stops)

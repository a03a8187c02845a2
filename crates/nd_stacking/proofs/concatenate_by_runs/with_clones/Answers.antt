use Rattle.std.proofs.Common.{◌≡◌, ℕ, ◌<◌, ◌+◌, List, [], ◌∷◌, ◌++◌, length, get_or, take, ◌∙◌, ap, sym, refl, arith}
use Rattle.std.specs.Prelude.{Some, slice_get}
use Rattle.std.proofs.lemmas.List.{append_assoc, take_more}
use Rattle.std.proofs.lemmas.Option.{slice_get_read}
use Rattle.nd_stacking.proofs.concatenate_by_runs.with_clones.Goals as goal

one_after : {A : Type 0} (before old new run : List A) (nth : ℕ) (x y : A) → nth < length run → old ≡ before ++ take nth run → new ≡ old ++ y ∷ [] → y ≡ x → x ≡ get_or run nth x → new ≡ before ++ take (nth + 1) run
one_after before old new run nth x y below so_far put same there =
    put
    ∙ ((λ k. so_far k ++ same k ∷ [])
    ∙ (append_assoc before (take nth run) (x ∷ [])
    ∙ ap (λ xs. before ++ xs) (ap (λ z. take nth run ++ z ∷ []) there ∙ sym (take_more run nth x below))))

pub loop-nth-preserved : goal.loop-nth-preserved
loop-nth-preserved g c =
    let run = c.args.run.now in
    let nth = c.loop-nth.nth in
    let x = c.index-run-nth.result in
    let test = c.loop-nth-test.true in
    let there : slice_get run nth ≡ Some x = slice_get_read run (length run) nth x refl (omega (arith, test)) c.index-run-nth.is in
    let same = c.requires.clones nth x there c.in_ok-copy.copy c.in_ok-copy.ensures.cases in
    let so_far = c.loop-nth.invariant in
    let put = c.push_reserved.ensures in record {
      items = one_after c.args.items.items c.loop-nth.longer.items c.push_reserved.new.self.items run nth x c.in_ok-copy.copy test so_far.items put.items same c.index-run-nth.is;
      len = omega (arith, put.len, so_far.len);
      room = put.capacity ∙ so_far.room;
    }

use Rattle.nd_layout.proofs.NamesFromOtherCrates.{arith, rules, subst, ℕ, ℤ, List, ◌≤◌, ◌++◌, take, ◌<◌, ◌≡◌, ◌+◌, ◌*◌, ◌∙◌, ◌∷◌, sym, ap, refl, length, drop, get_or, set, replicate, pos, FitsSigned, w64, to_z-of_z, length-replicate, size_of, false≢true, span_of-zeros, size_of-drop, Order}
use Rattle.std.proofs.lemmas.Grind.{common_steps}
use Rattle.nd_layout.specs.RanksAndReshapeStrides.{fastest_first, ServesRanks, Regroups}
use Rattle.nd_layout.proofs.reshape_lemmas.AxesFromFastest.{length-ordered, size_of-ordered, span_of-ordered, IsSeparated-ordered, IsSeparated-unordered, Serves-from_ranks, ranks_from_Serves, rests-unordered}
use Rattle.nd_layout.proofs.reshape_lemmas.RegroupedAxes.{Regroups-one_in}
use Rattle.nd_layout.proofs.reshape_lemmas.ServingStrides.{serves_all}
use Rattle.nd_layout.proofs.reshape_lemmas.StrideSearchOverLists.{sizes_at, some_to_take, span_left, taken_more, size_left, none_left, all_taken, span_all, separated_all, Serves-empty, rests_more, rests_all}
use Rattle.nd_layout.proofs.reshape.strides_that_serve.reshape_strides.Goals as goal

-- all axes are taken: the strides found regroup the layout, up to axes of length 1 after them
all_in_order : (o : Order) (os : List ℕ) (ps : List ℤ) (new : List ℕ) (out : List ℤ) (gn : List ℕ) (gs : List ℤ) (nth : ℕ) → length new ≤ nth → length out ≡ length new → Regroups os ps (take nth (fastest_first o new) ++ gn) (take nth (fastest_first o out) ++ gs)
    → (length (fastest_first o out) ≡ length (fastest_first o new)) × Regroups os ps (fastest_first o new ++ gn) (fastest_first o out ++ gs)
all_in_order o os ps new out gn gs nth past long g =
    let ln = length-ordered o new in
    let same : length (fastest_first o out) ≡ length (fastest_first o new) = omega (arith, long, ln, length-ordered o out) in
    (same, all_taken os ps (fastest_first o new) (fastest_first o out) gn gs nth (omega (arith, past, ln)) same g)

pub returns-then-is_empty_shape-clause-exact : goal.returns-then-is_empty_shape-clause-exact
returns-then-is_empty_shape-clause-exact c =
    let zeros = replicate (length c.args.new.now) (pos 0) in
    (λ _. (zeros, Serves-empty c.args.order c.args.lengths.now c.args.strides.now c.args.new.now zeros (search rules) (length-replicate (length c.args.new.now) (pos 0))), λ _. refl)

pub returns-then-is_empty_shape-clause-serves : goal.returns-then-is_empty_shape-clause-serves
returns-then-is_empty_shape-clause-serves c =
    λ _. Serves-empty c.args.order c.args.lengths.now c.args.strides.now c.args.new.now c.fill.new.self (search rules) (c.fill.ensures.len ∙ c.requires.as_long)

pub returns-then-is_empty_shape-clause-span : goal.returns-then-is_empty_shape-clause-span
returns-then-is_empty_shape-clause-span c =
    λ _.
    let zeros = c.fill.ensures.after (λ y is. search rules) in
    rw zeros (omega (arith, span_of-zeros c.args.new.now (length c.args.out.now)))

pub loop-nth-init : goal.loop-nth-init
loop-nth-init c =
    let ns = fastest_first c.args.order c.args.lengths.now in let ss = fastest_first c.args.order c.args.strides.now in
    let ln = length-ordered c.args.order c.args.lengths.now in let ls = length-ordered c.args.order c.args.strides.now in
    record {
      on = omega arith;
      closed = λ long _ _. omega arith;
      size = omega (arith, size_of-ordered c.args.order c.args.lengths.now, size_of-ordered c.args.order c.args.new.now);
      regroups = Regroups-one_in ns ss (pos 0) (omega arith);
      rests = λ k below. absurd (omega (arith, below));
    }

pub take_length-requires-clause-some : goal.take_length-requires-clause-some
take_length-requires-clause-some c =
    let ms = fastest_first c.args.order c.args.new.now in let lm = length-ordered c.args.order c.args.new.now in
    let z = size_of-ordered c.args.order c.args.new.now in let some : 0 < size_of c.args.new.now = search rules in
    rw c.nth_length.ensures (some_to_take ms c.loop-nth.nth _ (omega arith) (omega arith) c.loop-nth.invariant.size)

pub take_length-requires-clause-small : goal.take_length-requires-clause-small
take_length-requires-clause-small c =
    let ms = fastest_first c.args.order c.args.new.now in let z = size_of-ordered c.args.order c.args.new.now in
    let some : 0 < size_of c.args.new.now = search rules in let w = sizes_at ms c.loop-nth.nth (omega arith) in
    omega (arith, c.loop-nth.invariant.size)

pub take_length-requires-clause-fits : goal.take_length-requires-clause-fits
take_length-requires-clause-fits c =
    let ms = fastest_first c.args.order c.args.new.now in let ts = fastest_first c.args.order c.loop-nth.out in
    let lm = length-ordered c.args.order c.args.new.now in let lt = length-ordered c.args.order c.loop-nth.out in
    let left = span_left _ _ ms ts _ _ c.loop-nth.nth (omega arith) c.loop-nth.invariant.regroups in
    omega (arith, left, span_of-ordered c.args.order c.args.lengths.now c.args.strides.now c.requires.as_many)

pub returns-in-None-clause-exact : goal.returns-in-None-clause-exact
returns-in-None-clause-exact c =
    let o = c.args.order in let ns = fastest_first o c.args.lengths.now in let ss = fastest_first o c.args.strides.now in
    let ms = fastest_first o c.args.new.now in let ts = fastest_first o c.loop-nth.out in let g = c.loop-nth.group in
    let nth = c.loop-nth.nth in let lm = length-ordered o c.args.new.now in let lt = length-ordered o c.loop-nth.out in
    let z = size_of-ordered o c.args.new.now in let some : 0 < size_of c.args.new.now = search rules in
    let e : c.nth_length.result ≡ get_or ms nth 0 = c.nth_length.ensures in let within : nth < length ms = omega arith in
    let sizes : c.nth_length.result * size_of (drop (nth + 1) ms) ≡ g.length * size_of (drop g.next ns) =
    ap (λ (n : ℕ). n * size_of (drop (nth + 1) ms)) e ∙ sym (size_of-drop ms nth within) ∙ sym c.loop-nth.invariant.size in (
      λ no. absurd (false≢true no),
      λ w. absurd
          (none_left ns ss ms ts (fastest_first o w.0) (g.length ∷ drop g.next ns) (g.step ∷ drop g.next ss) nth within (omega arith) (omega arith) c.loop-nth.invariant.regroups
          (λ vs serves. c.in-None.ensures.taken (drop (nth + 1) ms) vs sizes
          (subst (λ (n : ℕ). ServesRanks (g.length ∷ drop g.next ns) (g.step ∷ drop g.next ss) (n ∷ drop (nth + 1) ms) vs) (sym e) serves))
          (ranks_from_Serves o c.args.lengths.now c.args.strides.now c.args.new.now w.0 c.requires.as_many c.requires.same_size w.1)),
    )

pub loop-nth-preserved : goal.loop-nth-preserved
loop-nth-preserved c =
    let o = c.args.order in let ns = fastest_first o c.args.lengths.now in let ss = fastest_first o c.args.strides.now in
    let ms = fastest_first o c.args.new.now in let ts = fastest_first o c.loop-nth.out in let g = c.loop-nth.group in
    let h = c.in-Some.left in let nth = c.loop-nth.nth in let lm = length-ordered o c.args.new.now in
    let lt = length-ordered o c.loop-nth.out in let z = size_of-ordered o c.args.new.now in
    let some : 0 < size_of c.args.new.now = search rules in let f : FitsSigned w64 c.in-Some.stride = search rules in
    let put = c.put_nth_stride.ensures ∙ ap (λ t. set ts nth t) (to_z-of_z w64 c.in-Some.stride f) in
    let e : c.nth_length.result ≡ get_or ms nth 0 = c.nth_length.ensures in let within : nth < length ms = omega arith in
    let taken = c.in-Some.ensures.taken in
    let step = subst (λ (n : ℕ). Regroups (g.length ∷ drop g.next ns) (g.step ∷ drop g.next ss) (n ∷ h.length ∷ drop h.next ns) (c.in-Some.stride ∷ h.step ∷ drop h.next ss)) e taken.0 in
    record {
      on = taken.1;
      closed = taken.2;
      size = size_left (g.length ∷ drop g.next ns) (h.length ∷ drop h.next ns) ms nth within (omega arith) c.loop-nth.invariant.size step.size;
      regroups = taken_more ns ss ms ts _ nth (g.length ∷ drop g.next ns) (g.step ∷ drop g.next ss) (h.length ∷ drop h.next ns) (h.step ∷ drop h.next ss) c.in-Some.stride within (omega arith) put c.loop-nth.invariant.regroups step;
      rests = rests_more nth ms ts _ c.in-Some.stride (omega arith) put (λ one. c.in-Some.ensures.rests (e ∙ one)) c.loop-nth.invariant.rests;
    }

pub returns : goal.returns
returns c =
    let o = c.args.order in let new = c.args.new.now in let out = c.loop-nth.out in let ms = fastest_first o new in
    let ts = fastest_first o out in let lm = length-ordered o new in let lt = length-ordered o out in
    let all = all_in_order o _ _ new out _ _ c.loop-nth.nth (omega arith) (omega arith) c.loop-nth.invariant.regroups in
    let serves = Serves-from_ranks o c.args.lengths.now c.args.strides.now new out c.requires.as_many (serves_all _ _ _ _ _ _ all.0 all.1) in
    let less = span_all _ _ _ _ _ _ all.0 all.1 in let some : 0 < size_of new = search rules in
    record {
      exact = (λ _. (out, serves), λ _. refl);
      serves = λ _. serves;
      span = λ _. omega (arith, less, span_of-ordered o c.args.lengths.now c.args.strides.now c.requires.as_many, span_of-ordered o new out (omega arith));
      separated = λ _ _ apart.
          IsSeparated-unordered o new out (omega arith)
          (separated_all _ _ _ _ _ _ all.0 all.1 (IsSeparated-ordered o c.args.lengths.now c.args.strides.now c.requires.as_many apart));
      rests = λ _. rests-unordered o new out (omega arith) (rests_all c.loop-nth.nth ms ts (omega arith) (omega arith) c.loop-nth.invariant.rests);
      empty = λ none. absurd (omega (arith, none, some));
    }

pub returns-then-is_empty_shape-clause-rests : goal.returns-then-is_empty_shape-clause-rests
returns-then-is_empty_shape-clause-rests c = grind (arith, common_steps)

use Rattle.nd_layout.proofs.NamesFromOtherCrates.{◌≡◌, ◌+◌, ◌<◌, ◌+ℤ◌, ◌*ℤ◌, ℕ, ℤ, pos, false, nat_eq, sym, subst, ◌∙◌, arith, rules, w64, FitsSigned, to_z-of_z, IsTrue}
use Rattle.nd_layout.specs.ValidMemoryPlaces.{is_place}
use Rattle.nd_layout.proofs.Integers.{add-mul, sums}
use Rattle.nd_layout.proofs.walk_lemmas.NextIndexOfWalk.{place_number}
use Rattle.nd_layout.proofs.walk.lane.Lane.part.Goals as goal

not_zero : (n : ℕ) → 0 < n → nat_eq n 0 ≡ false
not_zero n some = search rules

-- what lies so far after a moved place lies after the first one by both
after : (place first k moved : ℕ) (stride : ℤ) → pos moved ≡ pos place +ℤ (pos first *ℤ stride) → pos moved +ℤ (pos k *ℤ stride) ≡ pos place +ℤ (pos (first + k) *ℤ stride)
after place first k moved stride e = rw (add-mul first k stride) (omega (arith, sums, e))

small : (n : ℕ) (z : ℤ) → pos n ≡ z → IsTrue (is_place z) → n < 9223372036854775808
small n z e is = let to = place_number z is in let there = e ∙ to.1 in let below = to.2 in omega (arith, sums, there, below)

pub returns-clause-places : goal.returns-clause-places
returns-clause-places c k below =
    let lane = c.args.self.now in
    let signed : FitsSigned w64 lane.stride = search rules in
    let moved : pos c.moved_unless.result ≡ pos lane.place +ℤ (pos c.args.first *ℤ lane.stride) = rw (to_z-of_z w64 lane.stride signed) at (c.moved_unless.ensures.moved (not_zero c.args.count (omega (arith, below)))) in
    rw (to_z-of_z w64 lane.stride signed) (after lane.place c.args.first k c.moved_unless.result lane.stride moved)

pub invariant_of-result : goal.invariant_of-result
invariant_of-result c =
    let lane = c.args.self.now in
    let signed : FitsSigned w64 lane.stride = search rules in
    let moved : 0 < c.args.count → pos c.moved_unless.result ≡ pos lane.place +ℤ (pos c.args.first *ℤ lane.stride) = λ some. rw (to_z-of_z w64 lane.stride signed) at (c.moved_unless.ensures.moved (not_zero c.args.count some)) in
    let within = c.requires.within in
    let few = lane.few in
    record {
      few = omega (arith, within, few);
      from = λ some. small c.moved_unless.result (pos lane.place +ℤ (pos c.args.first *ℤ lane.stride)) (moved some) (lane.reach c.args.first (omega (arith, within, some)));
      reach = λ k below.
          rw (to_z-of_z w64 lane.stride signed)
          (subst (λ z. IsTrue (is_place z)) (sym (after lane.place c.args.first k c.moved_unless.result lane.stride (moved (omega (arith, below))))) (lane.reach (c.args.first + k) (omega (arith, within, below))));
    }

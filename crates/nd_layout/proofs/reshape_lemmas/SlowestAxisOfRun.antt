-- The slowest axis of a full layout steps over all the others.
use Rattle.nd_layout.proofs.NamesFromOtherCrates.{ℕ, ◌+◌, ◌*◌, ◌<◌, ◌≤◌, ◌≡◌, List, length, get_or, set, arith, ap, sym, subst, ◌∙◌, ℤ, pos, length-set, set-get_or, size_of, span_of, magnitude_at, IsSeparated}
use Rattle.nd_layout.specs.GrowthAlongAxis.{greatest_step}
use Rattle.nd_layout.proofs.AxisChange.{span_of-at, others_below, IsSeparated-changed}
use Rattle.nd_layout.proofs.AxisRemovedOrInserted.{size_of-removed}
use Rattle.nd_layout.proofs.SizesOfChangedAxes.{size_of-set}
use Rattle.nd_layout.proofs.growing_lemmas.AxisOfAnyLength.{size-le-span, last_step, le-greatest_step, span_within-all}

size_of_others : (ns : List ℕ) (a : ℕ) → a < length ns → size_of ns ≡ get_or ns a 0 * size_of (set ns a 1)
size_of_others ns a h = size_of-removed ns a h ∙ ap (λ x. get_or ns a 0 * x) (let q = size_of-set ns a 1 h in omega arith)

-- the axis of the greatest step in a full layout steps over all the others, which are full by themselves
pub slowest_axis : (ns : List ℕ) (ss : List ℤ) (a : ℕ) → length ss ≡ length ns → a < length ns → 1 < get_or ns a 0 → greatest_step (set ns a 1) ss ≤ magnitude_at ss a → IsSeparated ns ss → span_of ns ss + 1 ≡ size_of ns → IsSeparated (set ns a 1) ss × (span_of (set ns a 1) ss + 1 ≡ size_of (set ns a 1)) × (magnitude_at ss a ≡ size_of (set ns a 1))
slowest_axis ns ss a e h long greatest apart full =
    let os = set ns a 1 in
    let n = get_or ns a 0 in
    let s = get_or ss a (pos 0) in
    let A = magnitude_at ss a in
    let l = length-set ns a 1 in
    let kept : set ss a s ≡ ss = set-get_or ss a (pos 0) in
    let others' = IsSeparated-changed ns ss a 1 s e h (λ none. absurd (omega arith)) apart in
    let others : IsSeparated os ss = subst (λ (x : List ℤ). IsSeparated os x) kept others' in
    let all = span_within-all A os ss (λ j long'. let q = le-greatest_step os ss j (e ∙ sym l) long' in omega arith) in
    let far = others_below ns ss e apart a long in
    let few = size-le-span os ss (e ∙ sym l) others in
    let at = span_of-at ns ss a e h in
    let size = size_of_others ns a h in
    let w = last_step n A (span_of os ss) (size_of os) long (omega arith) few (omega arith) in
    (others, w.1, w.0)
